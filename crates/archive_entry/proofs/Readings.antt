-- What a body says, and what the readers of bodies and payloads answer, is the one right answer.
use Rattle.std.proofs.Common.{◌≡◌, ◌⊎◌, ℕ, Bool, true, false, List, Option, Some, Result, Ok, Err, MatchResult, refl, sym, ap, subst, ◌∙◌, inl, inr}
use Rattle.std.specs.Prelude.{IsErrOf, is_none}
use Rattle.std.specs.Result.{is_ok}
use Rattle.list_laws.specs.Only.{IsOnly}
use Rattle.exact_time.specs.Clock.{is_clock_moment}
use Rattle.exact_time.specs.declared.moment.Moment.{Moment}
use Rattle.exact_time.proofs.Clock.{since_1970, before_2600}
use Rattle.epochs.specs.Lines.{LineValues}
use Rattle.epochs.specs.Revisions.{IsRevision, IsRevisionFault}
use Rattle.epochs.specs.Views.{values_of_answer}
use Rattle.epochs.specs.declared.fault.RevisionFault.{RevisionFault}
use Rattle.epochs.specs.declared.fault.RevisionFault.TheVariants as revision
use Rattle.epochs.specs.declared.line.Line.{Line}
use Rattle.mseed_header.specs.Octets.{AreOctets, are_octets}
use Rattle.mseed_header.specs.Records.{AreRecords, HasRecordCount, IsRefusedFirst}
use Rattle.mseed_header.specs.declared.header.RecordFault.{RecordFault}
use Rattle.mseed_header.specs.declared.row.Row.{Row}
use Rattle.mseed_header.proofs.Octets.{octets_from, octets_to}
use Rattle.mseed_header.proofs.OneBatch.{batch_or_fault}
use Rattle.mseed_header.proofs.Rows.{one_batch, no_batch}
use Rattle.archive_entry.specs.Batches.{Batch, batch_by, batch_in, batch_answer, batch_of, fault_in, batch_fault, rows_told, rows_by, batch_rows, AreBatchRows}
use Rattle.archive_entry.specs.Bodies.{revision_of, revision_of-only, has_lines, told_lines}

-- ---- batches

-- bytes have a reading
pub batch_found : (body : List ℕ) → AreOctets body → (batch : Batch body) × (batch_in body ≡ Some batch)
unfolding batch_in
batch_found body octets = by (are_octets body) refl (octets_to body octets)
  where
    by : (b : Bool) (is : are_octets body ≡ b) → b ≡ true → (batch : Batch body) × (batch_by body b is ≡ Some batch)
    by true is all = (batch_or_fault body (octets_from body is), refl)
    by false is all = absurd cc

-- the words of a batch are the one right answer
pub batch_of-only : (body : List ℕ) → AreOctets body → IsOnly (HasRecordCount body) (IsRefusedFirst body) (batch_of body)
batch_of-only body octets =
    let found = batch_found body octets in
    subst (IsOnly (HasRecordCount body) (IsRefusedFirst body)) (ap (batch_answer body) (sym found.1)) found.0.1

pub batch_is : (body : List ℕ) (answer : Result ℕ (ℕ × RecordFault)) → AreOctets body → IsOnly (HasRecordCount body) (IsRefusedFirst body) answer → batch_of body ≡ answer
batch_is body answer octets is = sym ((batch_of-only body octets).only answer is.right)

-- whether all are records
pub batch_told : (body : List ℕ) (answer : Result ℕ (ℕ × RecordFault)) → AreOctets body → IsOnly (HasRecordCount body) (IsRefusedFirst body) answer → is_ok answer ≡ is_none (batch_fault body)
batch_told body answer octets is = by answer ∙ ap (λ (r : Result ℕ (ℕ × RecordFault)). is_none (fault_in r)) (sym (batch_is body answer octets is))
  where
    by : (answer : Result ℕ (ℕ × RecordFault)) → is_ok answer ≡ is_none (fault_in answer)
    by (Ok count) = refl
    by (Err found) = refl

rows_are : (body : List ℕ) (entry : ℕ) (moment : Moment) (answer : Result ℕ (ℕ × RecordFault)) (right : MatchResult answer (HasRecordCount body) (IsRefusedFirst body)) (clock : is_clock_moment moment ≡ true)
    → AreBatchRows body entry moment answer (rows_told body answer right entry moment clock)
rows_are body entry moment (Ok count) right clock = let rows = right entry moment (since_1970 moment clock) (before_2600 moment clock) in (rows.1, rows.2)
rows_are body entry moment (Err found) right clock = refl

-- the rows of a batch are those of its bytes, and no others are
pub batch_rows_are : (body : List ℕ) (entry : ℕ) (moment : Moment) → AreOctets body → is_clock_moment moment ≡ true → AreBatchRows body entry moment (batch_of body) (batch_rows entry moment body)
batch_rows_are body entry moment octets clock =
    let found = batch_found body octets in
    subst (λ (o : Option (Batch body)). AreBatchRows body entry moment (batch_answer body o) (rows_by body o entry moment (is_clock_moment moment) refl)) (sym found.1) (by found.0 (is_clock_moment moment) refl clock)
  where
    by : (batch : Batch body) (b : Bool) (is : is_clock_moment moment ≡ b) → b ≡ true → AreBatchRows body entry moment batch.0 (rows_by body (Some batch) entry moment b is)
    by batch true is t = rows_are body entry moment batch.0 (batch.1.right) is
    by batch false is t = absurd cc

pub batch_rows_is : (body : List ℕ) (entry : ℕ) (moment : Moment) (rows : List Row) → AreOctets body → is_clock_moment moment ≡ true → AreRecords body entry moment rows → batch_rows entry moment body ≡ rows
batch_rows_is body entry moment rows octets clock is = by (batch_of body) ((batch_of-only body octets).right) (batch_rows_are body entry moment octets clock)
  where
    by : (answer : Result ℕ (ℕ × RecordFault)) → MatchResult answer (HasRecordCount body) (IsRefusedFirst body) → AreBatchRows body entry moment answer (batch_rows entry moment body) → batch_rows entry moment body ≡ rows
    by (Ok count) right all = one_batch body entry moment (batch_rows entry moment body) rows all.0 is
    by (Err found) right none = absurd (no_batch body entry moment rows found.0 found.1 is right)

-- ---- revisions

pub revision_is : (body : List ℕ) (answer : Result (List LineValues) RevisionFault) → MatchResult answer (IsRevision body) (IsRevisionFault body) → revision_of body ≡ answer
revision_is body answer right = sym ((revision_of-only body).only answer right)

told_is : (body : List ℕ) (answer : Result (List LineValues) RevisionFault) (is : Bool) → IsErrOf answer revision.OutOfMemory ⊎ IsOnly (IsRevision body) (IsRevisionFault body) answer → told_lines answer ≡ Some is
    → is ≡ has_lines (revision_of body)
told_is body answer is (inl memory) h = absurd (lost answer memory h)
  where
    lost : (answer : Result (List LineValues) RevisionFault) → IsErrOf answer revision.OutOfMemory → told_lines answer ≡ Some is → ⊥
    lost (Ok lines) e h = cc
    lost (Err (revision.Bad line fault)) e h = cc
    lost (Err revision.OutOfMemory) e h = cc
told_is body answer is (inr only) h = by answer h ∙ ap has_lines (sym (revision_is body answer only.right))
  where
    by : (answer : Result (List LineValues) RevisionFault) → told_lines answer ≡ Some is → is ≡ has_lines answer
    by (Ok lines) h = cc
    by (Err (revision.Bad line fault)) h = cc
    by (Err revision.OutOfMemory) h = absurd cc

-- what a reader that may want memory tells
pub lines_told : (body : List ℕ) (answer : Result (List Line) RevisionFault) (is : Bool) → IsErrOf answer revision.OutOfMemory ⊎ IsOnly (IsRevision body) (IsRevisionFault body) (values_of_answer answer)
    → told_lines (values_of_answer answer) ≡ Some is → is ≡ has_lines (revision_of body)
lines_told body answer is exact h = told_is body (values_of_answer answer) is (seen answer exact) h
  where
    seen : (answer : Result (List Line) RevisionFault) → IsErrOf answer revision.OutOfMemory ⊎ IsOnly (IsRevision body) (IsRevisionFault body) (values_of_answer answer)
        → IsErrOf (values_of_answer answer) revision.OutOfMemory ⊎ IsOnly (IsRevision body) (IsRevisionFault body) (values_of_answer answer)
    seen (Ok lines) (inl e) = absurd cc
    seen (Err fault) (inl e) = let same : fault ≡ revision.OutOfMemory = cc in inl (ap Err same)
    seen answer (inr only) = inr only
