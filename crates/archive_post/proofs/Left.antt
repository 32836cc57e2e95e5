-- What a post leaves of an archive that takes commands, whatever it answered.
use Rattle.std.proofs.Common.{◌≡◌, ◌∙◌, inl, inr, ℕ, ◌+◌, ◌<◌, ◌≤◌, Bool, true, false, List, length, refl, sym, ap, subst, arith, Option, None, Result, Ok, Err, option_to_list}
use Rattle.std.specs.Result.{IsErrOf}
use Rattle.std.proofs.lemmas.Bool.{true≢false}
use Rattle.exact_time.specs.declared.moment.Moment.{Moment}
use Rattle.disk_model.specs.View.{DiskView, is_told}
use Rattle.archive_entry.specs.declared.entry.Entry.{Entry}
use Rattle.archive_log.specs.Archive.{Archived}
use Rattle.archive_state.specs.declared.posted.Posted.{Posted}
use Rattle.archive_state.specs.declared.verdict.Verdict.{Verdict}
use Rattle.desk_words.specs.Posting.{posted_entry}
use Rattle.desk_words.specs.Setting.{Setting}
use Rattle.desk_words.specs.Stand.{made_by}
use Rattle.desk_words.specs.declared.asking.SubmitFault.{SubmitFault}
use Rattle.desk_words.specs.declared.asking.SubmitFault.TheVariants.{Stopped, OutOfMemory as NoMemory}
use Rattle.archive_post.specs.Posts.{Commits, IsAdded, IsHalted, IsTheOne, IsUntouched, Posts, made_in, stops_in}
use Rattle.archive_post.specs.declared.kept.Intake.{Intake}
use Rattle.archive_post.proofs.Calls.{accepts_or_not, none_made, the_one}

-- so many entries were made, and so many commits stopped
pub record IsPosted {D : Type 0} (view : D → DiskView) (old new : Intake D) (made stops : ℕ) : Type 0 where
  pub told : is_told (view new.archive.disk) ≡ is_told (view old.archive.disk)
  pub faults : new.archive.faults ≡ old.archive.faults
  pub never : (total : ℕ) → (old.archive.stopped ≡ false → total ≡ 0) → new.archive.stopped ≡ false → total + stops ≡ 0
  pub ever : (total : ℕ) → (old.archive.stopped ≡ true → 0 < total) → new.archive.stopped ≡ true → 0 < total + stops
  pub waits : length (option_to_list new.waiting) ≡ made
  pub few : made ≤ 1
  pub silent : old.archive.stopped ≡ true → made ≡ 0

contrary : {A : Type 0} (b : Bool) → b ≡ true → b ≡ false → A
contrary b is not = absurd (true≢false (sym is ∙ not))

module _ {D : Type 0} (view : D → DiskView) (old new : Intake D) (none : old.waiting ≡ None) where
  by_adding : (h : List Entry) (e : Entry) (Stops : Type 0) → Commits view old.archive new.archive h e Stops → IsAdded old new e → IsPosted view old new 1 0
  by_adding h e Stops call a = record {
    told = call.tells;
    faults = call.opening;
    never = λ total none running. let zero = none a.before in omega (arith, zero);
    ever = λ total some stopped. contrary new.archive.stopped stopped a.behind;
    waits = ap (λ (o : Option Entry). length (option_to_list o)) a.waiting;
    few = omega (arith);
    silent = λ stopped. contrary old.archive.stopped stopped a.before;
  }

  by_stopping : (h : List Entry) (e : Entry) (Stops : Type 0) → Commits view old.archive new.archive h e Stops → IsHalted old new e → IsPosted view old new 0 1
  by_stopping h e Stops call a = record {
    told = call.tells;
    faults = call.opening;
    never = λ total none running. contrary new.archive.stopped a.stopped running;
    ever = λ total some stopped. omega (arith);
    waits = ap (λ (o : Option Entry). length (option_to_list o)) a.waiting;
    few = omega (arith);
    silent = λ stopped. refl;
  }

  by_nothing : IsUntouched old new → IsPosted view old new 0 0
  by_nothing u =
      let same : new.archive.stopped ≡ old.archive.stopped = ap (λ (a : Archived D). a.stopped) u.archive in
      record {
        told = ap (λ (a : Archived D). is_told (view a.disk)) u.archive;
        faults = ap (λ (a : Archived D). a.faults) u.archive;
        never = λ total none running. let zero = none (sym same ∙ running) in omega (arith, zero);
        ever = λ total some stopped. let more = some (sym same ∙ stopped) in omega (arith, more);
        waits = ap (λ (o : Option Entry). length (option_to_list o)) (u.waiting ∙ none);
        few = omega (arith);
        silent = λ stopped. refl;
      }

  pub posted : (h : List Entry) (p : Posted) (m : Moment) (s : Setting) (r : Result Verdict SubmitFault) → Posts old new h p m s r
      → ((e : Entry) → IsTheOne (posted_entry h p m s) e → Commits view old.archive new.archive h e (IsErrOf r Stopped)) → IsPosted view old new (made_in r) (stops_in r)
  posted h p m s (Err NoMemory) row calls = by_nothing row
  posted h p m s (Err Stopped) row calls = by_stopping h row.entry _ (calls row.entry (the_one (posted_entry h p m s) row.entry row.posted)) row.halted
  posted h p m s (Ok v) row calls =
      elim (accepts_or_not v) [
        | inl accepts ↦
            let x = row.accepted accepts.0 accepts.1 in
            subst (λ (w : Verdict). IsPosted view old new (made_by w) 0) (sym accepts.1) (by_adding h x.0 _ (calls x.0 (the_one (posted_entry h p m s) x.0 x.1)) x.2)
        | inr other ↦ subst (λ (n : ℕ). IsPosted view old new n 0) (sym (none_made v other)) (by_nothing (row.refused other))
      ]
