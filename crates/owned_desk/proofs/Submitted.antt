-- A submit of an owned desk, exit by exit.
use Rattle.std.proofs.Common.{◌≡◌, ◌∙◌, inl, inr, ℕ, false, List, length, refl, sym, ap, subst, arith, Option, None, Some, Result, Ok, Err}
use Rattle.std.specs.Result.{IsErrAnd, IsErrOf}
use Rattle.std.proofs.lemmas.List.{append-nil}
use Rattle.exact_time.specs.declared.moment.Moment.{Moment}
use Rattle.disk_model.specs.View.{DiskView, is_told}
use Rattle.archive_entry.specs.declared.entry.Entry.{Entry}
use Rattle.archive_log.specs.Archive.{Archived}
use Rattle.archive_post.specs.Posts.{Commits, IsAdded, IsTheOne, IsUntouched, Posts, first_hand}
use Rattle.archive_post.specs.Leaving.{left_of}
use Rattle.archive_post.specs.Waiting.{are_both, committed}
use Rattle.archive_post.specs.declared.kept.Intake.{Intake}
use Rattle.archive_post.proofs.Calls.{accepts_or_not, none_made, the_one}
use Rattle.archive_state.specs.declared.posted.Posted.{Posted}
use Rattle.archive_state.specs.declared.verdict.Verdict.{Verdict}
use Rattle.archive_state.specs.declared.verdict.Verdict.TheVariants.{Accept}
use Rattle.desk_words.specs.Counts.{RoseWithin}
use Rattle.desk_words.specs.Posting.{posted_entry}
use Rattle.desk_words.specs.Setting.{Setting}
use Rattle.desk_words.specs.Stand.{Footing, Submits, made_by}
use Rattle.desk_words.specs.declared.asking.Submitted.{Submitted}
use Rattle.desk_words.specs.declared.asking.SubmitFault.{SubmitFault}
use Rattle.desk_words.specs.declared.asking.SubmitFault.TheVariants.{Stopped, OutOfMemory as NoMemory}
use Rattle.owned_desk.specs.Owned.{Counts, Counted, stand_over}
use Rattle.owned_desk.proofs.Submitting.{judged_row, accepted_row, stopped_row, unmade_row, unseen_row}

module _ {D : Type 0} (view : D → DiskView) where
  abbrev footing : Archived D → Footing
  footing a = record { told = is_told (view a.disk); faults = a.faults }

  called : (old new : Archived D) (h : List Entry) (e : Entry) (Stops : Type 0) → Commits view old new h e Stops → footing new ≡ footing old
  called old new h e Stops call = λ i. record { told = call.tells i; faults = call.opening i }

  -- a desk that had seen a history, and then what it was left short; a post, and what followed it
  module _ (first flushed posted : Intake D) (h l : List Entry) (c k : Counts) (p : Posted) (m : Moment) (s : Setting)
      (same : flushed.archive ≡ first.archive) (all : l ≡ committed h first.waiting) (none : flushed.waiting ≡ None) (apart : are_both first.waiting first.archive.hand ≡ false)
      (r : Result Verdict SubmitFault) (row : Posts flushed posted l p m s r) (counted : Counted c k r) (caught : k.caught ≡ c.caught)
      (calls : (e : Entry) → IsTheOne (posted_entry l p m s) e → Commits view flushed.archive posted.archive l e (IsErrOf r Stopped)) where
    hand_before : flushed.archive.hand ≡ first.archive.hand
    hand_before = ap (λ (a : Archived D). a.hand) same

    footing_before : footing flushed.archive ≡ footing first.archive
    footing_before = ap footing same

    by_entry : (e : Entry) → posted_entry l p m s ≡ Some e → footing posted.archive ≡ footing first.archive
    by_entry e is = called flushed.archive posted.archive l e (IsErrOf r Stopped) (calls e (the_one (posted_entry l p m s) e is)) ∙ footing_before

    untouched_footing : IsUntouched flushed posted → footing posted.archive ≡ footing first.archive
    untouched_footing u = ap footing u.archive ∙ footing_before

    untouched_hand : IsUntouched flushed posted → posted.archive.hand ≡ first.archive.hand
    untouched_hand u = ap (λ (a : Archived D). a.hand) u.archive ∙ hand_before

    -- the post had no verdict
    pub fault_row : (seen : List Entry) → seen ≡ l → (t : Result Submitted SubmitFault) (f : SubmitFault) → r ≡ Err f → IsErrAnd t (λ x. x ≡ f) → Submits (stand_over view first h c) (stand_over view posted seen k) p m s t
    fault_row seen is (Ok x) f was told = absurd told
    fault_row seen is (Err Stopped) NoMemory was told = absurd (cc (told))
    fault_row seen is (Err NoMemory) Stopped was told = absurd (cc (told))
    fault_row seen is (Err Stopped) Stopped was told =
        let stop = subst (Posts flushed posted l p m s) was row in
        let count = subst (Counted c k) was counted in
        stopped_row (is_told (view first.archive.disk)) first.archive.faults h c.stops c.caught c.made first.waiting first.archive.hand l all apart p m s (stand_over view posted seen k) refl (by_entry stop.entry stop.posted) caught
        stop.entry stop.posted stop.could is count.0 count.1 (λ i. left_of (stop.halted.waiting i) ((stop.halted.hand ∙ ap (λ (x : Option Entry). first_hand x stop.entry) hand_before) i))
    fault_row seen is (Err NoMemory) NoMemory was told =
        let u = subst (Posts flushed posted l p m s) was row in
        let count = subst (Counted c k) was counted in
        unmade_row (is_told (view first.archive.disk)) first.archive.faults h c.stops c.caught c.made first.waiting first.archive.hand l all apart p m s (stand_over view posted seen k) refl (untouched_footing u) caught
        is count.0 count.1 (λ i. left_of ((u.waiting ∙ none) i) (untouched_hand u i))

    -- it had one; then came another flush
    module _ (v : Verdict) (was : r ≡ Ok v) (last : Intake D) (after : last.archive ≡ posted.archive) (seen : List Entry) where
      ruled : Posts flushed posted l p m s (Ok v)
      ruled = subst (Posts flushed posted l p m s) was row

      count : Counted c k (Ok v)
      count = subst (Counted c k) was counted

      added_footing : (e : Entry) → posted_entry l p m s ≡ Some e → footing last.archive ≡ footing first.archive
      added_footing e is = ap footing after ∙ by_entry e is

      added_hand : (e : Entry) → IsAdded flushed posted e → last.archive.hand ≡ first.archive.hand
      added_hand e a = ap (λ (x : Archived D). x.hand) after ∙ a.hand ∙ hand_before

      once : (n : ℕ) → v ≡ Accept n → RoseWithin 1 1 c.made k.made
      once n is = subst (λ (x : Verdict). RoseWithin (made_by x) (made_by x) c.made k.made) is count.1

      not_more : ((n : ℕ) → v ≡ Accept n → ⊥) → k.made ≡ c.made
      not_more other =
          let none = none_made v other in
          let rose = subst (λ (x : ℕ). RoseWithin x x c.made k.made) none count.1 in
          omega (arith, rose.later, rose.at_most)

      -- which showed what it added
      pub seen_row : seen ≡ committed l posted.waiting → last.waiting ≡ None → Submits (stand_over view first h c) (stand_over view last seen k) p m s (Ok (record { verdict = v; judged = length l; front = length seen }))
      seen_row more none_left =
          elim (accepts_or_not v) [
            | inl accepts ↦
                let n = accepts.0 in
                let x = ruled.accepted n accepts.1 in
                let e = x.0 in
                subst (λ (y : Verdict). Submits (stand_over view first h c) (stand_over view last seen k) p m s (Ok (record { verdict = y; judged = length l; front = length seen }))) (sym accepts.1)
                (accepted_row (is_told (view first.archive.disk)) first.archive.faults h c.stops c.caught c.made first.waiting first.archive.hand l all apart p m s (stand_over view last seen k) refl (added_footing e x.1) caught
                e n x.1 (sym accepts.1 ∙ ruled.verdict) (more ∙ ap (committed l) x.2.waiting) count.0 (once n accepts.1) (λ i. left_of (none_left i) (added_hand e x.2 i)))
            | inr other ↦
                let u = ruled.refused other in
                judged_row (is_told (view first.archive.disk)) first.archive.faults h c.stops c.caught c.made first.waiting first.archive.hand l all apart p m s (stand_over view last seen k) refl (ap footing after ∙ untouched_footing u) caught
                v ruled.verdict other (more ∙ ap (committed l) (u.waiting ∙ none) ∙ append-nil l) count.0 (not_more other) (λ i. left_of (none_left i) ((ap (λ (x : Archived D). x.hand) after ∙ untouched_hand u) i))
          ]

      -- for which memory was missing
      pub unseen : seen ≡ l → last.waiting ≡ posted.waiting → (t : Result Submitted SubmitFault) → IsErrAnd t (λ x. x ≡ NoMemory) → Submits (stand_over view first h c) (stand_over view last seen k) p m s t
      unseen is left (Ok x) told = absurd told
      unseen is left (Err Stopped) told = absurd (cc (told))
      unseen is left (Err NoMemory) told =
          elim (accepts_or_not v) [
            | inl accepts ↦
                let n = accepts.0 in
                let x = ruled.accepted n accepts.1 in
                let e = x.0 in
                unseen_row (is_told (view first.archive.disk)) first.archive.faults h c.stops c.caught c.made first.waiting first.archive.hand l all apart p m s (stand_over view last seen k) refl (added_footing e x.1) caught
                e x.1 is count.0 (once n accepts.1) (ap (λ (o : Option Entry). left_of o last.archive.hand) (left ∙ x.2.waiting))
            | inr other ↦
                let u = ruled.refused other in
                unmade_row (is_told (view first.archive.disk)) first.archive.faults h c.stops c.caught c.made first.waiting first.archive.hand l all apart p m s (stand_over view last seen k) refl (ap footing after ∙ untouched_footing u) caught
                is count.0 (not_more other) (λ i. left_of ((left ∙ u.waiting ∙ none) i) ((ap (λ (x : Archived D). x.hand) after ∙ untouched_hand u) i))
          ]
