-- What a state holds with one entry more, and that the next entry can be taken in.
use Rattle.std.proofs.Common.{◌≡◌, inl, inr, ◌==◌, ◌&&◌, ◌∙◌, ℕ, ℤ, ◌+◌, ◌≤◌, ◌<◌, ◌^◌, Bool, true, false, List, [], ◌∷◌, ◌++◌, length, None, Some, pos, Result, Ok, Err, Option, refl, sym, ap, subst, arith, append_assoc, append-nil, length-append}
use Rattle.std.specs.Prelude.{nat_le, nat_lt, is_none, MatchResult, OnOk, OnErr, ⊤}
use Rattle.std.specs.List.{AllByRecursion, flat_map}
use Rattle.std.specs.Ordering.{int_eq}
use Rattle.std.proofs.lemmas.Bool.{and_parts}
use Rattle.std.proofs.lemmas.Bool.Decides.{nat_tests, Decides-int_eq}
use Rattle.std.proofs.lemmas.List.Sums.{sum_by-cons}
use Rattle.exact_time.specs.Clock.{is_clock_moment}
use Rattle.exact_time.specs.declared.error.OutOfMemory.{OutOfMemory}
use Rattle.exact_time.specs.declared.moment.Moment.{Moment}
use Rattle.exact_time.proofs.Clock.{since_1970, before_2600}
use Rattle.mseed_header.specs.Octets.{AreOctets}
use Rattle.mseed_header.specs.Records.{HasRecordCount, IsRefusedFirst, IsFirstBad}
use Rattle.mseed_header.specs.declared.header.RecordFault.{RecordFault}
use Rattle.mseed_header.specs.declared.header.RecordFault.TheVariants.{Short}
use Rattle.mseed_header.specs.declared.row.Row.{Row}
use Rattle.mseed_header.proofs.Rows.{no_batch}
use Rattle.dataselect.specs.Rows.{with_rows}
use Rattle.dataselect.proofs.Held.{length_all, held_all}
use Rattle.epochs.specs.Lines.{LineValues}
use Rattle.epoch_rules.specs.LiveLines.{live_lines}
use Rattle.epochs.specs.declared.fault.RevisionFault.{RevisionFault}
use Rattle.epochs.specs.declared.fault.RevisionFault.TheVariants as revision
use Rattle.archive_entry.specs.Batches.{Batch as Reading, rows_by, rows_told, batch_in, batch_answer, count_in, fault_in, AreBatchRows, batch_of, batch_rows}
use Rattle.archive_entry.specs.Bodies.{revision_of, has_lines, is_body}
use Rattle.archive_entry.specs.Spelling.{IsEntry}
use Rattle.archive_entry.specs.declared.entry.Entry.{Entry}
use Rattle.archive_entry.specs.declared.entry.Kind.{Kind}
use Rattle.archive_entry.specs.declared.entry.Kind.TheVariants.{Batch, Revise}
use Rattle.archive_entry.proofs.Readings.{batch_rows_are}
use Rattle.archive_state.specs.declared.limits.Limits.{Limits}
use Rattle.archive_state.specs.declared.verdict.Verdict.TheVariants.{BadRecord, FullRecords}
use Rattle.archive_state.specs.History.{rows_by as entry_rows, rows_of, arrived_of, live_of, lines_in, records_by, records_of}
use Rattle.archive_state.specs.Lawful.{full, is_first, founds, ha1_behind, is_founding, is_later, is_next, goes_on, is_lawful}
use Rattle.archive_state.specs.Verdicts.{command_of, is_kind, Totals, totals_of, within_bytes, batch_verdict, revise_verdict, body_verdict}
use Rattle.archive_state.proofs.Accepts.{Accepts, chosen, accepted, later_parts, next_by}
use Rattle.archive_state.proofs.Founding.{founds_parts, founding_revision}
use Rattle.archive_state.proofs.Growth.{records_more, live_by_batch, arrived_by_batch, arrived_by_revision, live_by_revision}
use Rattle.archive_state.proofs.Room.{not_less, founding_kind, first_room}

-- where a record is refused, there are no rows
pub rows_none : (body : List ℕ) (number : ℕ) (moment : Moment) (at : ℕ) (fault : RecordFault) → AreOctets body → is_clock_moment moment ≡ true → IsFirstBad body at fault → batch_rows number moment body ≡ []
rows_none body number moment at fault octets clock bad = by (batch_of body) (batch_rows_are body number moment octets clock)
  where
    by : (answer : Result ℕ (ℕ × RecordFault)) → AreBatchRows body number moment answer (batch_rows number moment body) → batch_rows number moment body ≡ []
    by (Ok count) are = absurd (no_batch body number moment (batch_rows number moment body) at fault are.0 bad)
    by (Err found) none = none

-- ---- how many rows

rows_by_few : (body : List ℕ) (o : Option (Reading body)) (number : ℕ) (moment : Moment) (clock : Bool) (is : is_clock_moment moment ≡ clock)
    → length (rows_by body o number moment clock is) ≤ count_in (batch_answer body o)
rows_by_few body None number moment clock is = omega arith
rows_by_few body (Some batch) number moment false is = omega arith
rows_by_few body (Some batch) number moment true is = told batch.0 (batch.1.right)
  where
    told : (answer : Result ℕ (ℕ × RecordFault)) (right : MatchResult answer (HasRecordCount body) (IsRefusedFirst body)) → length (rows_told body answer right number moment is) ≤ count_in answer
    told (Err found) right = omega arith
    told (Ok count) right = let as_many = (right number moment (since_1970 moment is) (before_2600 moment is)).2 in omega (arith, as_many)

-- an entry has no more rows than records
pub rows_few : (e : Entry) → length (rows_of e) ≤ records_by e.kind e.body
rows_few e = by e.kind
  where
    by : (k : Kind) → length (entry_rows k e) ≤ records_by k e.body
    by Batch = rows_by_few e.body (batch_in e.body) e.number e.moment (is_clock_moment e.moment) refl
    by Revise = omega arith

all_rows_few : (h : List Entry) → length (flat_map rows_of h) ≤ records_of h
all_rows_few [] = omega arith
all_rows_few (e ∷ h) =
    let sum = sum_by-cons (λ (x : Entry). records_by x.kind x.body) e h in
    let longer = length-append (rows_of e) (flat_map rows_of h) in
    omega (arith, sum, longer, rows_few e, all_rows_few h)

-- no more rows have arrived than there are records
pub arrived_few : (h : List Entry) → length (arrived_of h) ≤ records_of h
arrived_few h =
    let arrived : length (with_rows [] (flat_map rows_of h)) ≤ 0 + length (flat_map rows_of h) = length_all [] (flat_map rows_of h) in
    let same : length (with_rows [] (flat_map rows_of h)) ≡ length (arrived_of h) = ap length (held_all [] (flat_map rows_of h)) in
    omega (arith, arrived, same, all_rows_few h)

-- ---- the records of a lawful history

batch_records : (t : Totals) (limits : Limits) (body : List ℕ) (r : Result ℕ (ℕ × RecordFault)) → Accepts (batch_verdict t limits body r) → t.records + count_in r ≤ limits.max_records
batch_records t limits body (Err bad) h = absurd cc
batch_records t limits body (Ok more) h = not_less limits.max_records (t.records + more) (chosen (nat_lt limits.max_records (t.records + more)) (FullRecords (t.records + more)) (within_bytes t limits body) h refl).0

later_records : (past : List Entry) (e : Entry) → is_later past e ≡ true → records_of past ≤ 2_097_152 → records_of past + records_by e.kind e.body ≤ 2_097_152
later_records past e is few = by e.kind (accepted past full (command_of e) (later_parts past e is).2).body
  where
    by : (k : Kind) → Accepts (body_verdict (totals_of past) full k e.body) → records_of past + records_by k e.body ≤ 2_097_152
    by Batch h = batch_records (totals_of past) full e.body (batch_of e.body) (chosen (length e.body == 0) (BadRecord 0 Short) (batch_verdict (totals_of past) full e.body (batch_of e.body)) h refl).1
    by Revise h = omega (arith, few)

pub next_records : (past : List Entry) (e : Entry) → is_next past e ≡ true → records_of past ≤ 2_097_152 → records_of past + records_by e.kind e.body ≤ 2_097_152
next_records past e is few =
    elim (next_by past e is) [
      | inl first ↦ subst (λ (k : Kind). records_of past + records_by k e.body ≤ 2_097_152) (sym (founding_kind e first.1)) (omega (arith, few))
      | inr later ↦ later_records past e later few
    ]

records_go_on : (past es : List Entry) → records_of past ≤ 2_097_152 → goes_on past es ≡ true → records_of (past ++ es) ≤ 2_097_152
records_go_on past [] few is = subst (λ (h : List Entry). records_of h ≤ 2_097_152) (sym (append-nil past)) few
records_go_on past (e ∷ es) few is =
    let parts = and_parts (is_next past e) (goes_on (past ++ e ∷ []) es) is in
    let more : records_of (past ++ e ∷ []) ≤ 2_097_152 = subst (λ (n : ℕ). n ≤ 2_097_152) (sym (records_more past e)) (next_records past e parts.0 few) in
    subst (λ (h : List Entry). records_of h ≤ 2_097_152) (append_assoc past (e ∷ []) es) (records_go_on (past ++ e ∷ []) es more parts.1)

-- a lawful history has at most so many records
pub lawful_records : (h : List Entry) → is_lawful h ≡ true → records_of h ≤ 2_097_152
lawful_records h is = records_go_on [] h (omega arith) is

-- ---- the next entry can be taken in

batch_reads : (t : Totals) (limits : Limits) (body : List ℕ) (r : Result ℕ (ℕ × RecordFault)) → Accepts (batch_verdict t limits body r) → is_none (fault_in r) ≡ true
batch_reads t limits body (Err bad) h = absurd cc
batch_reads t limits body (Ok more) h = refl

revise_reads : (t : Totals) (limits : Limits) (body : List ℕ) (r : Result (List LineValues) RevisionFault) → Accepts (revise_verdict t limits body r) → has_lines r ≡ true
revise_reads t limits body (Ok lines) h = refl
revise_reads t limits body (Err (revision.Bad line fault)) h = absurd cc
revise_reads t limits body (Err revision.OutOfMemory) h = absurd cc

body_reads : (t : Totals) (limits : Limits) (kind : Kind) (body : List ℕ) → Accepts (body_verdict t limits kind body) → is_body kind body ≡ true
body_reads t limits Batch body h = batch_reads t limits body (batch_of body) (chosen (length body == 0) (BadRecord 0 Short) (batch_verdict t limits body (batch_of body)) h refl).1
body_reads t limits Revise body h = revise_reads t limits body (revision_of body) h

small : (n : ℕ) → nat_le n 1_048_576 ≡ true → n < 2 ^ 32
small n h = grind (arith, nat_tests)

pub record Fits (past : List Entry) (e : Entry) : Type 0 where
  pub clock : is_clock_moment e.moment ≡ true
  pub short : length e.body < 2 ^ 32
  pub reads : is_body e.kind e.body ≡ true

later_fits : (past : List Entry) (e : Entry) → is_later past e ≡ true → Fits past e
later_fits past e is =
    let parts = later_parts past e is in
    let a = and_parts (nat_le 1 e.seq && nat_le e.seq 1_000_000_000_000_000_000) (nat_le (length e.body) 1_048_576 && is_clock_moment e.moment) parts.1 in
    let b = and_parts (nat_le (length e.body) 1_048_576) (is_clock_moment e.moment) a.1 in
    record { clock = b.1; short = small (length e.body) b.0; reads = body_reads (totals_of past) full e.kind e.body (accepted past full (command_of e) parts.2).body }

at_epoch : (moment : Moment) → moment.micros ≡ pos 0 → is_clock_moment moment ≡ true
at_epoch moment is = ap (λ (n : ℤ). is_clock_moment (record { micros = n })) is

first_fits : (e : Entry) → is_founding e ≡ true → Fits [] e
first_fits e is =
    let b = and_parts (is_first e) (founds e.author e.body) is in
    let c = and_parts (e.number == 1 && e.seq == 0) (int_eq e.moment.micros (pos 0) && is_kind e.kind Revise) b.0 in
    let d = and_parts (int_eq e.moment.micros (pos 0)) (is_kind e.kind Revise) c.1 in
    let parts = founds_parts e.author e.body b.1 in
    let ha1 = ha1_behind e.author e.body in
    let room = first_room e is in
    record {
      clock = at_epoch e.moment ((Decides-int_eq e.moment.micros (pos 0)).0 d.0);
      short = omega (arith, room.1);
      reads = (λ i. is_body (founding_kind e is i) (parts.2 i)) ∙ ap has_lines (founding_revision e.author ha1 parts.0 parts.1);
    }

pub next_fits : (past : List Entry) (e : Entry) → is_next past e ≡ true → Fits past e
next_fits past e is =
    elim (next_by past e is) [
      | inl first ↦ subst (λ (h : List Entry). Fits h e) (sym first.0) (first_fits e first.1)
      | inr later ↦ later_fits past e later
    ]

-- ---- a state with one entry more

pub absorbed_batch : (r : Result ⊤ OutOfMemory) (rows new : List Row) (live : List LineValues) (es more : List Entry) (e : Entry) → e.kind ≡ Batch → rows ≡ arrived_of es → live ≡ live_of es
    → OnOk r (new ≡ with_rows rows (batch_rows e.number e.moment e.body)) → OnOk r (more ≡ es ++ e ∷ []) → OnErr r (new ≡ rows) → OnErr r (more ≡ es)
    → (new ≡ arrived_of more) × (live ≡ live_of more)
absorbed_batch (Ok done) rows new live es more e kind arrived lives grown longer same_rows same = (
  grown ∙ ap (λ (xs : List Row). with_rows xs (batch_rows e.number e.moment e.body)) arrived ∙ sym (arrived_by_batch es e kind) ∙ ap arrived_of (sym longer),
  lives ∙ sym (live_by_batch es e kind) ∙ ap live_of (sym longer),
)
absorbed_batch (Err fault) rows new live es more e kind arrived lives grown longer same_rows same = (same_rows ∙ arrived ∙ ap arrived_of (sym same), lives ∙ ap live_of (sym same))

pub absorbed_revision : (r : Result ⊤ OutOfMemory) (rows : List Row) (live new : List LineValues) (es more : List Entry) (e : Entry) → e.kind ≡ Revise → rows ≡ arrived_of es → live ≡ live_of es
    → OnOk r (new ≡ live_lines (live ++ lines_in (revision_of e.body))) → OnOk r (more ≡ es ++ e ∷ []) → OnErr r (new ≡ live) → OnErr r (more ≡ es)
    → (rows ≡ arrived_of more) × (new ≡ live_of more)
absorbed_revision (Ok done) rows live new es more e kind arrived lives changed longer same_lines same = (
  arrived ∙ sym (arrived_by_revision es e kind) ∙ ap arrived_of (sym longer),
  changed ∙ ap (λ (ls : List LineValues). live_lines (ls ++ lines_in (revision_of e.body))) lives ∙ sym (live_by_revision es e kind) ∙ ap live_of (sym longer),
)
absorbed_revision (Err fault) rows live new es more e kind arrived lives changed longer same_lines same = (arrived ∙ ap arrived_of (sym same), same_lines ∙ lives ∙ ap live_of (sym same))

-- what is no batch is a revision
pub other_kind : (k : Kind) → (k ≡ Batch → ⊥) → k ≡ Revise
other_kind Batch h = absurd (h refl)
other_kind Revise h = refl

spelled_behind : (es : List Entry) (e : Entry) → AllByRecursion IsEntry es → IsEntry e → AllByRecursion IsEntry (es ++ e ∷ [])
spelled_behind [] e all is = (is, tt)
spelled_behind (x ∷ es) e all is = (all.0, spelled_behind es e all.1 is)

-- each entry has a spelling still
pub absorbed_spelled : (r : Result ⊤ OutOfMemory) (es more : List Entry) (e : Entry) → AllByRecursion IsEntry es → IsEntry e
    → OnOk r (more ≡ es ++ e ∷ []) → OnErr r (more ≡ es) → AllByRecursion IsEntry more
absorbed_spelled (Ok done) es more e all is longer same = subst (AllByRecursion IsEntry) (sym longer) (spelled_behind es e all is)
absorbed_spelled (Err fault) es more e all is longer same = subst (AllByRecursion IsEntry) (sym same) all
