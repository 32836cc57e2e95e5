use Rattle.std.proofs.Common.{◌≡◌, ◌≤◌, ◌+◌, length, vec_len, vec_capacity}
use Rattle.epoch_catalog.proofs.MarkedNames.{AreNamed}
use Rattle.epoch_catalog.proofs.withdrawals.mark_names.Given as goal

abbrev pub invariant-names : goal.invariant-names
invariant-names l = record {
  named : AreNamed l.heads l.rest l.names.items l.marks.items;
  few : vec_len l.names + length l.rest ≤ length l.heads;
  walked : vec_len l.marks + length l.rest ≡ length l.heads;
  names_room : vec_capacity l.names ≡ vec_capacity l.fn.names;
  marks_room : vec_capacity l.marks ≡ vec_capacity l.fn.marks;
}

abbrev pub decreases-names : goal.decreases-names
decreases-names l = length l.rest
