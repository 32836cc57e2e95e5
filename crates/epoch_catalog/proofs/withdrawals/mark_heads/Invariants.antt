use Rattle.std.proofs.Common.{◌≡◌, ◌+◌, ◌++◌, length, vec_len, vec_capacity}
use Rattle.epoch_catalog.specs.Withdrawals.{marks_from}
use Rattle.epoch_catalog.proofs.withdrawals.mark_heads.Given as goal

abbrev pub invariant-heads : goal.invariant-heads
invariant-heads l = record {
  marked : l.marks.items ++ marks_from l.reach l.rest ≡ l.fn.marks.items ++ marks_from l.fn.end l.heads;
  walked : vec_len l.marks + length l.rest ≡ vec_len l.fn.marks + length l.heads;
  room : vec_capacity l.marks ≡ vec_capacity l.fn.marks;
}

abbrev pub decreases-heads : goal.decreases-heads
decreases-heads l = length l.rest
