use Rattle.std.proofs.Common.{◌≡◌, ◌++◌, ◌+◌, ◌≤◌, true, map, reverse, vec_len, vec_capacity}
use Rattle.std.specs.List.{AllByRecursion}
use Rattle.std.specs.List.Sorted.{IsStrictlySortedBy}
use Rattle.epochs.specs.Views.{values_of_line}
use Rattle.epoch_rules.specs.KeyOrder.{line_cmp}
use Rattle.epoch_rules.specs.LiveLines.{is_said, live_lines}
use Rattle.epoch_catalog.proofs.placing.put_all.Given as goal

-- the heads that are left, the last first, make of the lines what all heads make of all
abbrev pub invariant-heads : goal.invariant-heads
invariant-heads l = record {
  same : live_lines (map values_of_line l.live.items ++ reverse (map values_of_line l.heads.items)) ≡ live_lines (map values_of_line l.fn.live.items ++ map values_of_line l.fn.heads.items);
  rises : IsStrictlySortedBy line_cmp (map values_of_line l.live.items);
  states : AllByRecursion (λ e. is_said e ≡ true) (map values_of_line l.live.items);
  len : vec_len l.live + vec_len l.heads ≤ vec_len l.fn.live + vec_len l.fn.heads;
  capacity : vec_capacity l.live ≡ vec_capacity l.fn.live;
}

abbrev pub decreases-heads : goal.decreases-heads
decreases-heads l = vec_len l.heads
