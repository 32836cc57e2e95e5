-- Bytes are records end to end, so many of them, or one is the first that is refused.
use Rattle.std.proofs.Common.{ℕ, zero, suc, ◌+◌, ◌-◌, ◌≤◌, pos, List, [], ◌∷◌, length, drop, Result, Ok, Err, arith, refl, inl, inr}
use Rattle.std.proofs.lemmas.Int.{ints}
use Rattle.std.proofs.lemmas.List.{length-drop}
use Rattle.list_laws.specs.Only.{IsOnly}
use Rattle.exact_time.specs.declared.moment.Moment.{Moment}
use Rattle.mseed_header.specs.Header.{HasHeader, RefusesRecord}
use Rattle.mseed_header.specs.Octets.{AreOctets}
use Rattle.mseed_header.specs.Records.{HasRecordCount, IsRefusedFirst}
use Rattle.mseed_header.specs.declared.header.Header.{Header}
use Rattle.mseed_header.specs.declared.header.RecordFault.{RecordFault}
use Rattle.mseed_header.proofs.Batches.{first_bad}
use Rattle.mseed_header.proofs.Fronts.{size_bounds}
use Rattle.mseed_header.proofs.Headers.{only_header}
use Rattle.mseed_header.proofs.Octets.{octets_behind}
use Rattle.mseed_header.proofs.OneHeader.{header_or_refused}
use Rattle.mseed_header.proofs.Rows.{only_count}
use Rattle.mseed_header.proofs.Walked.{HasWalked, walk_begins, walks, walked_all}

-- bytes begin with the record of one header, or have one fault
pub header_or_fault : (bytes : List ℕ) → AreOctets bytes → (answer : Result Header RecordFault) × IsOnly (HasHeader bytes) (RefusesRecord bytes) answer
header_or_fault bytes octets =
    elim (header_or_refused bytes octets) [
      | inl found ↦ (Ok found.0, only_header bytes (Ok found.0) found.1)
      | inr refused ↦ (Err refused.0, only_header bytes (Err refused.0) refused.1)
    ]

abbrev Answer : List ℕ → Type 0
Answer bytes = (answer : Result ℕ (ℕ × RecordFault)) × IsOnly (HasRecordCount bytes) (IsRefusedFirst bytes) answer

walk : (fuel : ℕ) (bytes rest : List ℕ) (count : ℕ) → AreOctets rest → length rest ≤ fuel → HasWalked bytes rest count → Answer bytes
walk fuel bytes [] count octets room walked = (Ok count, only_count bytes (Ok count) (walked_all bytes [] count refl walked))
walk zero bytes (b ∷ rest) count octets room walked = absurd (omega (arith, room))
walk (suc fuel) bytes (b ∷ rest) count octets room walked =
    elim (header_or_refused (b ∷ rest) octets) [
      | inl found ↦
          let size = size_bounds (b ∷ rest) found.0 found.1 in
          walk fuel bytes (drop found.0.length (b ∷ rest)) (count + 1) (octets_behind found.0.length (b ∷ rest) octets) (omega (arith, size, room, length-drop found.0.length (b ∷ rest)))
          (walks bytes (b ∷ rest) count found.0 found.1 walked)
      | inr refused ↦
          let zero_moment : Moment = record { micros = pos 0 } in
          let far = walked 0 zero_moment (omega (arith, ints)) (omega (arith, ints)) in
          let at = length bytes - length (b ∷ rest) in
          (Err (at, refused.0), only_count bytes (Err (at, refused.0)) (first_bad bytes (b ∷ rest) far.0 refused.0 far.1.split (λ e. absurd cc) refused.1))
    ]

-- bytes are so many records, or one record is the first that is refused
pub batch_or_fault : (bytes : List ℕ) → AreOctets bytes → Answer bytes
batch_or_fault bytes octets = walk (length bytes) bytes bytes 0 octets (omega arith) (walk_begins bytes)
