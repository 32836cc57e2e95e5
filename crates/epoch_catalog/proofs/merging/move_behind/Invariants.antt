use Rattle.std.proofs.Common.{◌≡◌, ◌+◌, map, vec_len, vec_capacity}
use Rattle.epochs.specs.Views.{values_of_line}
use Rattle.epoch_catalog.specs.Merging.{AreMoved}
use Rattle.epoch_catalog.proofs.merging.move_behind.Given as goal

abbrev pub invariant-moved : goal.invariant-moved
invariant-moved l = record {
  moved : AreMoved (values_of_line l.head) (map values_of_line l.fn.live.items) (map values_of_line l.live.items) (map values_of_line l.fn.behind.items) (map values_of_line l.behind.items);
  len : vec_len l.live + vec_len l.behind ≡ vec_len l.fn.live + vec_len l.fn.behind;
  live_capacity : vec_capacity l.live ≡ vec_capacity l.fn.live;
  behind_capacity : vec_capacity l.behind ≡ vec_capacity l.fn.behind;
}

abbrev pub decreases-moved : goal.decreases-moved
decreases-moved l = vec_len l.live
