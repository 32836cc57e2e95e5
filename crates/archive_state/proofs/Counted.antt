-- Records that were counted are those of the body.
use Rattle.std.proofs.Common.{◌≡◌, ℕ, true, List, Result, Err, sym, ap, ◌∙◌}
use Rattle.std.specs.Prelude.{is_none}
use Rattle.mseed_header.specs.declared.header.RecordFault.{RecordFault}
use Rattle.archive_entry.specs.Batches.{batch_of, count_in, fault_in, batch_fault}
use Rattle.archive_entry.specs.Bodies.{IsCounted}
use Rattle.archive_entry.specs.declared.entry.Kind.{Kind}
use Rattle.archive_entry.specs.declared.entry.Kind.TheVariants.{Batch, Revise}
use Rattle.archive_state.specs.History.{records_by}

pub counted_is : (kind : Kind) (body : List ℕ) (n : ℕ) → IsCounted kind body n → n ≡ records_by kind body
counted_is Batch body n is = sym (ap count_in is.count)
counted_is Revise body n is = is.count

-- a body without a fault has none
pub no_fault : (body : List ℕ) (bad : ℕ × RecordFault) → Err bad ≡ batch_of body → is_none (batch_fault body) ≡ true → ⊥
no_fault body bad is none = let lost : is_none (fault_in (Err bad)) ≡ true = ap (λ (r : Result ℕ (ℕ × RecordFault)). is_none (fault_in r)) is ∙ none in cc
