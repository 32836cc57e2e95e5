-- The file and what was read determine one answer of `talk`.
use Rattle.std.proofs.Common.{◌≡◌, ◌⊎◌, inl, inr, ℕ, List, [], Result, Ok, Err, refl, sym, ap, ◌∙◌}
use Rattle.archive_entry.specs.declared.entry.Entry.{Entry}
use Rattle.archive_log.specs.Opening.{IsStartFault}
use Rattle.archive_log.specs.declared.fault.StartFault.{StartFault}
use Rattle.archive_log.specs.declared.fault.StartFault.TheVariants as start
use Rattle.archive_log.proofs.OneOpening.{one_opening}
use Rattle.centre_session.specs.Items.{Ending, closing, over, cut}
use Rattle.centre.specs.Serves.{RefusesFile, no_journal, damaged}
use Rattle.centre.specs.Talks.{IsServed, IsTalkAnswer, served, was_cut, refuses}
use Rattle.centre.specs.declared.ending.Refusal.{Refusal}
use Rattle.centre.specs.declared.ending.Refusal.TheVariants.{NotAJournal, Damaged, RequestCut}
use Rattle.centre_session.proofs.OneList.{one_list}

one_end_of : (file input : List ℕ) (d e : Ending) → IsServed file input d → IsServed file input e → d ≡ e
one_end_of file input d e p q = (one_list 0 input p.ends.items q.ends.items p.ends.interim q.ends.interim d e p.ends.all q.ends.all).2

-- a file that opens has no fault
not_both : (file input : List ℕ) (ending : Ending) (fault : StartFault) → IsServed file input ending → IsStartFault file fault → ⊥
not_both file input ending fault p q =
    let same : (let one : Result (List Entry) StartFault = Err fault in one) ≡ Ok p.history = (one_opening file (Ok p.history) p.opens).only (Err fault) q in
    absurd cc

one_fault : (file : List ℕ) (f g : StartFault) → IsStartFault file f → IsStartFault file g → f ≡ g
one_fault file f g p q =
    let same : (let one : Result (List Entry) StartFault = Err g in one) ≡ Err f = (one_opening file (Err f) p).only (Err g) q in
    cc

not_closed : (file input : List ℕ) → IsServed file input closing ⊎ IsServed file input over → IsServed file input cut → ⊥
not_closed file input (inl p) q = let bad = one_end_of file input closing cut p q in absurd cc
not_closed file input (inr p) q = let bad = one_end_of file input over cut p q in absurd cc

-- a file that opens isn't refused
opens : (file input : List ℕ) (ending : Ending) (answer : Result (List ℕ) Refusal) → IsServed file input ending → RefusesFile file answer → ⊥
opens file input ending answer p (no_journal q e) = not_both file input ending start.NotAJournal p q
opens file input ending answer p (damaged at q e) = not_both file input ending (start.Damaged at) p q

opens_closed : (file input : List ℕ) (answer : Result (List ℕ) Refusal) → IsServed file input closing ⊎ IsServed file input over → RefusesFile file answer → ⊥
opens_closed file input answer (inl p) q = opens file input closing answer p q
opens_closed file input answer (inr p) q = opens file input over answer p q

pub one_refusal : (file : List ℕ) (a b : Result (List ℕ) Refusal) → RefusesFile file a → RefusesFile file b → a ≡ b
one_refusal file a b (no_journal p e) (no_journal q f) = e ∙ sym f
one_refusal file a b (no_journal p e) (damaged at q f) = let bad = one_fault file start.NotAJournal (start.Damaged at) p q in absurd cc
one_refusal file a b (damaged at p e) (no_journal q f) = let bad = one_fault file (start.Damaged at) start.NotAJournal p q in absurd cc
one_refusal file a b (damaged at p e) (damaged to q f) =
    let faults = one_fault file (start.Damaged at) (start.Damaged to) p q in
    let same : at ≡ to = cc in
    e ∙ ap (λ n. Err (Damaged n)) same ∙ sym f

pub one_talk : (file input : List ℕ) (a b : Result (List ℕ) Refusal) → IsTalkAnswer file input a → IsTalkAnswer file input b → a ≡ b
one_talk file input a b (served p e) (served q f) = e ∙ sym f
one_talk file input a b (served p e) (was_cut q f) = absurd (not_closed file input p q)
one_talk file input a b (served p e) (refuses q) = absurd (opens_closed file input b p q)
one_talk file input a b (was_cut p e) (served q f) = absurd (not_closed file input q p)
one_talk file input a b (was_cut p e) (was_cut q f) = e ∙ sym f
one_talk file input a b (was_cut p e) (refuses q) = absurd (opens file input cut b p q)
one_talk file input a b (refuses p) (served q f) = absurd (opens_closed file input a q p)
one_talk file input a b (refuses p) (was_cut q f) = absurd (opens file input cut a q p)
one_talk file input a b (refuses p) (refuses q) = one_refusal file a b p q

-- and where the file opens or has a fault there is one
pub some_talk : (file input : List ℕ) (ending : Ending) → IsServed file input ending → (answer : Result (List ℕ) Refusal) × IsTalkAnswer file input answer
some_talk file input closing p = (Ok [], served (inl p) refl)
some_talk file input over p = (Ok [], served (inr p) refl)
some_talk file input cut p = (Err RequestCut, was_cut p refl)

pub some_refusal : (file input : List ℕ) (fault : StartFault) → IsStartFault file fault → (answer : Result (List ℕ) Refusal) × IsTalkAnswer file input answer
some_refusal file input start.NotAJournal p = (Err NotAJournal, refuses (no_journal p refl))
some_refusal file input (start.Damaged at) p = (Err (Damaged at), refuses (damaged at p refl))
some_refusal file input start.DiskFault p = absurd p
some_refusal file input start.OutOfMemory p = absurd p
