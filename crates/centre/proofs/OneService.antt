-- The file determines one answer of `serve`.
use Rattle.std.proofs.Common.{◌≡◌, inl, inr, ℕ, List, [], Result, Ok, Err, refl, sym, ap, ◌∙◌}
use Rattle.archive_entry.specs.declared.entry.Entry.{Entry}
use Rattle.archive_log.specs.Opening.{OpensWith, IsStartFault}
use Rattle.archive_log.specs.declared.fault.StartFault.{StartFault}
use Rattle.archive_log.specs.declared.fault.StartFault.TheVariants as start
use Rattle.archive_log.proofs.OneOpening.{one_opening}
use Rattle.centre.specs.Serves.{IsServeAnswer, RefusesFile, no_journal, damaged, opened, refuses}
use Rattle.centre.specs.Talks.{OpensOrNot}
use Rattle.centre.specs.declared.ending.Refusal.{Refusal}
use Rattle.centre.specs.declared.ending.Refusal.TheVariants.{NotAJournal, Damaged}
use Rattle.centre.proofs.OneTalk.{one_refusal}

no_fault_opened : (file : List ℕ) (h : List Entry) (fault : StartFault) → OpensWith file h → IsStartFault file fault → ⊥
no_fault_opened file h fault p q =
    let same : (let one : Result (List Entry) StartFault = Err fault in one) ≡ Ok h = (one_opening file (Ok h) p).only (Err fault) q in
    absurd cc

not_both : (file : List ℕ) (h : List Entry) (answer : Result (List ℕ) Refusal) → OpensWith file h → RefusesFile file answer → ⊥
not_both file h answer p (no_journal q e) = no_fault_opened file h start.NotAJournal p q
not_both file h answer p (damaged at q e) = no_fault_opened file h (start.Damaged at) p q

pub one_service : (file : List ℕ) (a b : Result (List ℕ) Refusal) → IsServeAnswer file a → IsServeAnswer file b → a ≡ b
one_service file a b (opened h p e) (opened g q f) = e ∙ sym f
one_service file a b (opened h p e) (refuses q) = absurd (not_both file h b p q)
one_service file a b (refuses p) (opened g q f) = absurd (not_both file g a q p)
one_service file a b (refuses p) (refuses q) = one_refusal file a b p q

-- and where the file opens or has a fault there is one
refused_service : (file : List ℕ) (fault : StartFault) → IsStartFault file fault → (answer : Result (List ℕ) Refusal) × IsServeAnswer file answer
refused_service file start.NotAJournal p = (Err NotAJournal, refuses (no_journal p refl))
refused_service file (start.Damaged at) p = (Err (Damaged at), refuses (damaged at p refl))
refused_service file start.DiskFault p = absurd p
refused_service file start.OutOfMemory p = absurd p

pub some_service : (file : List ℕ) → OpensOrNot file → (answer : Result (List ℕ) Refusal) × IsServeAnswer file answer
some_service file (inl opens) = (Ok [], opened opens.0 opens.1 refl)
some_service file (inr refused) = refused_service file refused.0 refused.1
