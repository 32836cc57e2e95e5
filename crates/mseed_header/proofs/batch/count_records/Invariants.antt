use Rattle.std.proofs.Common.{◌+◌, ◌≤◌, length}
use Rattle.mseed_header.proofs.Walked.{HasWalked}
use Rattle.mseed_header.proofs.batch.count_records.Given as goal

-- so many records stand in the bytes before what is left
abbrev pub invariant-records : goal.invariant-records
invariant-records l = record {
  walked : HasWalked l.bytes l.rest l.count;
  fits : l.count + length l.rest ≤ length l.bytes;
}

abbrev pub decreases-records : goal.decreases-records
decreases-records l = length l.rest
