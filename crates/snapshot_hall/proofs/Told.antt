-- What a desk tells is of what is seen.
use Rattle.std.proofs.Common.{◌≡◌, ◌∙◌, ℕ, List, [], ◌∷◌, length, Result, Ok, Err, sym, ap, subst}
use Rattle.std.specs.Prelude.{IfOk}
use Rattle.std.specs.List.{AllByRecursion}
use Rattle.exact_time.specs.declared.error.OutOfMemory.{OutOfMemory}
use Rattle.exact_time.specs.declared.moment.Moment.{Moment}
use Rattle.archive_entry.specs.declared.entry.Entry.{Entry}
use Rattle.archive_state.specs.Lawful.{IsLawful}
use Rattle.archive_state.specs.declared.posted.Posted.{Posted}
use Rattle.archive_world.specs.Submitting.{Opens, ask_told, submit_told, told_by}
use Rattle.archive_world.proofs.Calling.{CanBeTold, opens}
use Rattle.archive_world.proofs.Numbering.{verdict_told}
use Rattle.desk_words.specs.Setting.{Setting}
use Rattle.desk_words.specs.Stand.{answer_of}
use Rattle.desk_words.specs.declared.asking.Answer.{Answer}
use Rattle.desk_words.specs.declared.asking.Question.{Question}
use Rattle.desk_words.specs.declared.asking.Submitted.{Submitted}
use Rattle.desk_words.specs.declared.asking.SubmitFault.{SubmitFault}
use Rattle.two_copies.specs.Tallies.{Tally}
use Rattle.committer.specs.Rows.{Locked, SubmitsLocked}
use Rattle.snapshot_hall.specs.Starts.{IsNew}

pub ask_can : (seen : List Entry) (q : Question) (s : Setting) (r : Result Answer OutOfMemory) → IfOk r (λ a. a ≡ answer_of seen q s) → CanBeTold (ask_told r) (length seen)
ask_can seen q s (Ok a) is = ap (λ (x : Answer). x.front) is
ask_can seen q s (Err f) is = tt

pub submit_can : (old new : Locked) (p : Posted) (m : Moment) (s : Setting) (r : Result Submitted SubmitFault) → IsLawful old.latest → SubmitsLocked old new p m s r → CanBeTold (submit_told r) (length new.shown)
submit_can old new p m s (Ok told) lawful call =
    let all = call.row.shown ∙ call.row.latest in
    subst (λ (h : List Entry). CanBeTold (told_by told.verdict told.front) (length h)) (sym all)
    (verdict_told old.latest lawful p m s told.verdict told.front call.row.verdict (call.row.front ∙ ap length all))
submit_can old new p m s (Err f) lawful call = tt

-- ---- a start

all_seen : {P : Type 0} (opening : List Entry) (seen : P → List Entry) (counted : P → Tally) (caught : P → ℕ) (places : List P) → AllByRecursion (λ p. IsNew opening (seen p) (counted p) (caught p)) places → AllByRecursion (λ p. seen p ≡ opening) places
all_seen opening seen counted caught [] all = tt
all_seen opening seen counted caught (p ∷ places) all = (all.0.seen_is, all_seen opening seen counted caught places all.1)

pub opens_new : {P : Type 0} (opening : List Entry) (seen : P → List Entry) (counted : P → Tally) (caught : P → ℕ) (places : List P) → AllByRecursion (λ p. IsNew opening (seen p) (counted p) (caught p)) places → Opens opening seen places
opens_new opening seen counted caught places all = opens opening seen places (all_seen opening seen counted caught places all)
