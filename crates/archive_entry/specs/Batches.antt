-- What the body of a batch says. All bytes are records end to end, of one number, or one record is the first
-- that is refused (the law `bytes_are_records_or_one_is_the_first_refused` of the crate `mseed_header`), so each
-- word here is a function of the bytes. A list of numbers that aren't bytes counts as a record cut off.
use Rattle.std.specs.Prelude.{◌≡◌, ℕ, Bool, true, false, List, [], length, Option, Some, None, Result, Ok, Err, MatchResult, refl}
use Rattle.list_laws.specs.Only.{IsOnly}
use Rattle.exact_time.specs.Clock.{is_clock_moment}
use Rattle.exact_time.specs.declared.moment.Moment.{Moment}
use Rattle.exact_time.proofs.Clock.{since_1970, before_2600}
use Rattle.mseed_header.specs.Octets.{are_octets}
use Rattle.mseed_header.specs.Records.{AreRecords, HasRecordCount, IsRefusedFirst}
use Rattle.mseed_header.specs.declared.header.RecordFault.{RecordFault}
use Rattle.mseed_header.specs.declared.header.RecordFault.TheVariants.{Short}
use Rattle.mseed_header.specs.declared.row.Row.{Row}
use Rattle.mseed_header.proofs.Octets.{octets_from}
use Rattle.mseed_header.proofs.OneBatch.{batch_or_fault}

-- the right answer, with what makes it right
abbrev pub Batch : List ℕ → Type 0
Batch body = (answer : Result ℕ (ℕ × RecordFault)) × IsOnly (HasRecordCount body) (IsRefusedFirst body) answer

abbrev pub batch_by : (body : List ℕ) (octets : Bool) → are_octets body ≡ octets → Option (Batch body)
batch_by body true is = Some (batch_or_fault body (octets_from body is))
batch_by body false is = None

-- closed, since no proof above needs to see how it was found
unfoldable pub batch_in : (body : List ℕ) → Option (Batch body)
batch_in body = batch_by body (are_octets body) refl

abbrev pub batch_answer : (body : List ℕ) → Option (Batch body) → Result ℕ (ℕ × RecordFault)
batch_answer body (Some batch) = batch.0
batch_answer body None = Err (0, Short)

-- how many records the bytes are, or the offset of the first that is refused, and its fault
abbrev pub batch_of : List ℕ → Result ℕ (ℕ × RecordFault)
batch_of body = batch_answer body (batch_in body)

abbrev pub fault_in : Result ℕ (ℕ × RecordFault) → Option (ℕ × RecordFault)
fault_in (Ok count) = None
fault_in (Err found) = Some found

abbrev pub count_in : Result ℕ (ℕ × RecordFault) → ℕ
count_in (Ok count) = count
count_in (Err found) = 0

-- the first record that is refused, with its offset
abbrev pub batch_fault : List ℕ → Option (ℕ × RecordFault)
batch_fault body = fault_in (batch_of body)

-- the number of records, none where one is refused
abbrev pub record_count : List ℕ → ℕ
record_count body = count_in (batch_of body)

abbrev pub rows_told : (body : List ℕ) (answer : Result ℕ (ℕ × RecordFault)) → MatchResult answer (HasRecordCount body) (IsRefusedFirst body) → ℕ → (moment : Moment) → is_clock_moment moment ≡ true → List Row
rows_told body (Ok count) rows entry moment clock = (rows entry moment (since_1970 moment clock) (before_2600 moment clock)).0
rows_told body (Err found) refused entry moment clock = []

abbrev pub rows_by : (body : List ℕ) → Option (Batch body) → ℕ → (moment : Moment) (clock : Bool) → is_clock_moment moment ≡ clock → List Row
rows_by body (Some batch) entry moment true clock = rows_told body batch.0 (batch.1.right) entry moment clock
rows_by body _ entry moment _ clock = []

-- The rows of a batch, as the entry of that number and moment brings them: none where a record is refused, or
-- the moment is none that a clock gives.
abbrev pub batch_rows : ℕ → Moment → List ℕ → List Row
batch_rows entry moment body = rows_by body (batch_in body) entry moment (is_clock_moment moment) refl

-- what they are, where bytes are so many records or one is refused
abbrev pub AreBatchRows : List ℕ → ℕ → Moment → Result ℕ (ℕ × RecordFault) → List Row → Type 0
AreBatchRows body entry moment (Ok count) rows = AreRecords body entry moment rows × (length rows ≡ count)
AreBatchRows body entry moment (Err found) rows = rows ≡ []
