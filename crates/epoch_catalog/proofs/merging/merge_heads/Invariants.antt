use Rattle.std.proofs.Common.{◌≡◌, ◌+◌, ◌≤◌, ◌++◌, map, vec_len, vec_capacity}
use Rattle.epochs.specs.Views.{values_of_line}
use Rattle.epoch_rules.specs.LiveLines.{live_lines}
use Rattle.epoch_catalog.proofs.Merged.{AreMerging}
use Rattle.epoch_catalog.proofs.merging.merge_heads.Given as goal

abbrev pub invariant-heads : goal.invariant-heads
invariant-heads l = record {
  merging : AreMerging (live_lines (map values_of_line l.fn.live.items ++ map values_of_line l.fn.heads.items)) (map values_of_line l.live.items) (map values_of_line l.heads.items) (map values_of_line l.behind.items);
  len : vec_len l.live + vec_len l.behind + vec_len l.heads ≤ vec_len l.fn.live + vec_len l.fn.heads;
  live_capacity : vec_capacity l.live ≡ vec_capacity l.fn.live;
  behind_capacity : vec_capacity l.behind ≡ vec_capacity l.fn.behind;
}

abbrev pub decreases-heads : goal.decreases-heads
decreases-heads l = vec_len l.heads
