-- What a call does that may commit an entry.
use Rattle.std.specs.Prelude.{◌≡◌, ◌⊎◌, ◌≤◌, ℕ, List, Option, None, Some, true, false, ⊤, Result, Ok, Err}
use Rattle.exact_time.specs.Causes.{Rose}
use Rattle.exact_time.specs.declared.moment.Moment.{Moment}
use Rattle.disk_model.specs.View.{DiskView, WhereTold, AlwaysLeaves, is_told}
use Rattle.archive_entry.specs.declared.entry.Entry.{Entry}
use Rattle.archive_log.specs.Archive.{Archived}
use Rattle.archive_log.specs.Histories.{RecoversWithOrWithout}
use Rattle.archive_state.specs.Lawful.{is_accept, is_next}
use Rattle.archive_state.specs.declared.posted.Posted.{Posted}
use Rattle.archive_state.specs.declared.verdict.Verdict.{Verdict}
use Rattle.archive_state.specs.declared.verdict.Verdict.TheVariants.{Accept}
use Rattle.desk_words.specs.Posting.{could_stop, ruling, posted_entry}
use Rattle.desk_words.specs.Setting.{Setting}
use Rattle.desk_words.specs.Stand.{made_by}
use Rattle.desk_words.specs.declared.asking.SubmitFault.{SubmitFault}
use Rattle.desk_words.specs.declared.asking.SubmitFault.TheVariants.{Stopped, OutOfMemory as NoMemory}
use Rattle.archive_post.specs.declared.appending.AppendFault.{AppendFault}
use Rattle.archive_post.specs.declared.appending.AppendFault.TheVariants as append
use Rattle.archive_post.specs.declared.kept.Intake.{Intake}

-- the entry that is in hand after a commit that failed: the first one stays
abbrev pub first_hand : Option Entry → Entry → Option Entry
first_hand None e = Some e
first_hand (Some hand) e = Some hand

-- From one moment to another at most this entry was committed behind a history. At every moment every image is a journal
-- of that history, with the entry or without; an archive that was stopped before gives its disk no call. A stop has its
-- cause: the disk failed now, or had failed since it was opened; where no commit had failed before, it failed now.
pub record Commits {D : Type 0} (view : D → DiskView) (old new : Archived D) (h : List Entry) (e : Entry) (Stops : Type 0) : Type 0 where
  pub any_moment : WhereTold (view old.disk) (old.stopped ≡ false → AlwaysLeaves (view old.disk) (view new.disk) (RecoversWithOrWithout h e))
  pub silent : old.stopped ≡ true → new.disk ≡ old.disk
  pub tells : is_told (view new.disk) ≡ is_told (view old.disk)
  pub opening : new.faults ≡ old.faults
  pub later : (view old.disk).faults ≤ (view new.disk).faults
  pub cause : Stops → Rose (view old.disk).faults (view new.disk).faults ⊎ Rose old.faults (view old.disk).faults
  pub failed : Stops → old.stopped ≡ false → Rose (view old.disk).faults (view new.disk).faults

-- it is this entry, if there is one
abbrev pub IsTheOne : Option Entry → Entry → Type 0
IsTheOne None e = ⊤
IsTheOne (Some x) e = x ≡ e

-- the entry was committed, and waits
pub record IsAdded {D : Type 0} (old new : Intake D) (e : Entry) : Type 0 where
  pub waiting : new.waiting ≡ Some e
  pub hand : new.archive.hand ≡ old.archive.hand
  pub before : old.archive.stopped ≡ false
  pub behind : new.archive.stopped ≡ false

-- A disk stopped the entry's commit, now or an earlier one: nothing waits, and the entry of the first is in hand. An
-- archive that was stopped before stays as it is.
pub record IsHalted {D : Type 0} (old new : Intake D) (e : Entry) : Type 0 where
  pub waiting : new.waiting ≡ None
  pub hand : new.archive.hand ≡ first_hand old.archive.hand e
  pub stopped : new.archive.stopped ≡ true
  pub silent : old.archive.stopped ≡ true → new.archive ≡ old.archive

-- nothing was committed, and the disk wasn't called; there may be more room
pub record IsUntouched {D : Type 0} (old new : Intake D) : Type 0 where
  pub waiting : new.waiting ≡ old.waiting
  pub archive : new.archive ≡ record old.archive { spare = new.archive.spare }

-- what an entry's commit does: it is added, or a disk stopped it, or memory ran out before
abbrev pub Adds : {D T : Type 0} → Intake D → Intake D → Entry → Result T SubmitFault → Type 0
Adds old new e (Ok done) = IsAdded old new e
Adds old new e (Err Stopped) = IsHalted old new e
Adds old new e (Err NoMemory) = IsUntouched old new

-- the command was judged over the history: on Accept its entry was committed, and on every other verdict nothing was
pub record IsRuled {D : Type 0} (old new : Intake D) (h : List Entry) (p : Posted) (m : Moment) (s : Setting) (told : Verdict) : Type 0 where
  pub verdict : told ≡ ruling h p m s
  pub accepted : (n : ℕ) → told ≡ Accept n → (e : Entry) × (posted_entry h p m s ≡ Some e) × IsAdded old new e
  pub refused : ((n : ℕ) → told ≡ Accept n → ⊥) → IsUntouched old new

-- the command was accepted, and a disk stopped its commit; its entry comes next
pub record IsStopped {D : Type 0} (old new : Intake D) (h : List Entry) (p : Posted) (m : Moment) (s : Setting) : Type 0 where
  pub entry : Entry
  pub posted : posted_entry h p m s ≡ Some entry
  pub accepted : is_accept (ruling h p m s) ≡ true
  pub could : could_stop h p m s ≡ true
  pub next : is_next h entry ≡ true
  pub halted : IsHalted old new entry

-- what posting a command does to an archive with this history
abbrev pub Posts : {D : Type 0} → Intake D → Intake D → List Entry → Posted → Moment → Setting → Result Verdict SubmitFault → Type 0
Posts old new h p m s (Ok told) = IsRuled old new h p m s told
Posts old new h p m s (Err Stopped) = IsStopped old new h p m s
Posts old new h p m s (Err NoMemory) = IsUntouched old new

-- how many entries a post made, and how many commits it found stopped
abbrev pub made_in : Result Verdict SubmitFault → ℕ
made_in (Ok told) = made_by told
made_in (Err fault) = 0

abbrev pub stops_in : Result Verdict SubmitFault → ℕ
stops_in (Ok told) = 0
stops_in (Err Stopped) = 1
stops_in (Err NoMemory) = 0

-- an entry that is handed in is added where it comes next, and no other is
pub record IsAppended {D : Type 0} (old new : Intake D) (h : List Entry) (e : Entry) : Type 0 where
  pub next : is_next h e ≡ true
  pub added : IsAdded old new e

pub record IsAppendHalted {D : Type 0} (old new : Intake D) (h : List Entry) (e : Entry) : Type 0 where
  pub next : is_next h e ≡ true
  pub halted : IsHalted old new e

abbrev pub Appends : {D T : Type 0} → Intake D → Intake D → List Entry → Entry → Result T AppendFault → Type 0
Appends old new h e (Ok done) = IsAppended old new h e
Appends old new h e (Err append.NotNext) = (is_next h e ≡ false) × (new ≡ old)
Appends old new h e (Err append.Stopped) = IsAppendHalted old new h e
Appends old new h e (Err append.OutOfMemory) = IsUntouched old new

abbrev pub append_fault : SubmitFault → AppendFault
append_fault Stopped = append.Stopped
append_fault NoMemory = append.OutOfMemory
