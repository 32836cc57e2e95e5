use Rattle.std.proofs.Common.{◌≡◌, ℕ, ◌+◌, ◌-◌, ◌≤◌, ◌++◌, length, drop, Some}
use Rattle.std.specs.List.{slice_get}
use Rattle.mseed_header.specs.declared.row.Row.{Row}
use Rattle.mseed_header.specs.Records.{images_of, IsPlaced}
use Rattle.mseed_header.proofs.cut.cut_from.Given as goal

-- the rows so far, and what is left, are the bytes
abbrev pub invariant-records : goal.invariant-records
invariant-records l = record {
  split : l.bytes ≡ images_of l.rows ++ l.rest;
  placed : (i : ℕ) (row : Row) → slice_get l.rows i ≡ Some row → IsPlaced l.entry l.moment i row;
  few : length l.rows + length l.rest ≤ length l.bytes;
}

abbrev pub decreases-records : goal.decreases-records
decreases-records l = length l.rest
