-- What a submit does to what lies under the lock.
use Rattle.std.specs.Prelude.{◌≡◌, ◌⊎◌, ◌+◌, true, List, ◌++◌, length, Result, Ok, Err}
use mathlib.Core.List.{IsPrefix}
use Rattle.exact_time.specs.declared.moment.Moment.{Moment}
use Rattle.archive_entry.specs.declared.entry.Entry.{Entry}
use Rattle.archive_state.specs.declared.posted.Posted.{Posted}
use Rattle.archive_state.specs.declared.verdict.Verdict.{Verdict}
use Rattle.desk_words.specs.Posting.{ruling, posted_entry, added_by, listed, could_stop}
use Rattle.desk_words.specs.Setting.{Setting}
use Rattle.desk_words.specs.Stand.{made_by}
use Rattle.desk_words.specs.declared.asking.Submitted.{Submitted}
use Rattle.desk_words.specs.declared.asking.SubmitFault.{SubmitFault}
use Rattle.desk_words.specs.declared.asking.SubmitFault.TheVariants.{Stopped, OutOfMemory as NoMemory}
use Rattle.two_copies.specs.Tallies.{Tally, tally, with_stop}

-- what is known under the lock: the committed history, the one that is shown, and what the caller counts
pub record Locked : Type 0 where
  pub latest : List Entry
  pub shown : List Entry
  pub tally : Tally

abbrev pub locked : List Entry → List Entry → Tally → Locked
locked latest shown tally = record { latest = latest; shown = shown; tally = tally }

-- It was judged over the committed history. On Accept its entry alone is added, and the caller made one entry; on every
-- other verdict nothing is. All that is committed is shown.
pub record IsRuled (old new : Locked) (p : Posted) (m : Moment) (s : Setting) (told : Submitted) : Type 0 where
  pub verdict : told.verdict ≡ ruling old.latest p m s
  pub judged : told.judged ≡ length old.latest
  pub latest : new.latest ≡ old.latest ++ added_by told.verdict (posted_entry old.latest p m s)
  pub shown : new.shown ≡ new.latest
  pub front : told.front ≡ length new.shown
  pub made : new.tally ≡ tally (old.tally.made + made_by told.verdict) old.tally.stops

-- A disk stopped it: it is accepted over the committed history, nothing is added, all that is committed is shown, and
-- the caller was stopped once more.
pub record IsHalted (old new : Locked) (p : Posted) (m : Moment) (s : Setting) : Type 0 where
  pub could : could_stop old.latest p m s ≡ true
  pub latest : new.latest ≡ old.latest
  pub shown : new.shown ≡ old.latest
  pub made : new.tally ≡ with_stop old.tally

-- nothing was added, or this entry alone, which the caller made
pub record AsBefore (old new : Locked) : Type 0 where
  pub latest : new.latest ≡ old.latest
  pub made : new.tally ≡ old.tally

pub record HasOneMore (old new : Locked) (p : Posted) (m : Moment) (s : Setting) : Type 0 where
  pub latest : new.latest ≡ old.latest ++ listed (posted_entry old.latest p m s)
  pub made : new.tally ≡ tally (old.tally.made + 1) old.tally.stops

-- memory ran out: what is shown may lack an entry that is committed
abbrev pub IsUnsure : Locked → Locked → Posted → Moment → Setting → Type 0
IsUnsure old new p m s = AsBefore old new ⊎ HasOneMore old new p m s

abbrev pub LockedRow : Locked → Locked → Posted → Moment → Setting → Result Submitted SubmitFault → Type 0
LockedRow old new p m s (Ok told) = IsRuled old new p m s told
LockedRow old new p m s (Err Stopped) = IsHalted old new p m s
LockedRow old new p m s (Err NoMemory) = IsUnsure old new p m s

-- what a submit does under the lock: what is shown only grows
pub record SubmitsLocked (old new : Locked) (p : Posted) (m : Moment) (s : Setting) (result : Result Submitted SubmitFault) : Type 0 where
  pub grows : IsPrefix old.shown new.shown
  pub row : LockedRow old new p m s result

-- posting counts one entry more on Accept, one stop more where a disk stopped it, and nothing else
abbrev pub Counted : Tally → Tally → Result Verdict SubmitFault → Type 0
Counted old new (Ok verdict) = new ≡ tally (old.made + made_by verdict) old.stops
Counted old new (Err Stopped) = new ≡ with_stop old
Counted old new (Err NoMemory) = new ≡ old
