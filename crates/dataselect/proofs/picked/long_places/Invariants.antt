use Rattle.std.proofs.Common.{◌≡◌, ◌++◌, ◌<◌, length}
use Rattle.std.specs.List.{AllByRecursion, concat}
use Rattle.dataselect.specs.Picked.{long_segments}
use Rattle.dataselect.proofs.picked.long_places.Given as goal

abbrev pub invariant-segments : goal.invariant-segments
invariant-segments l = record {
  picked : l.picked ++ concat (long_segments l.rows l.minimum l.rest) ≡ concat (long_segments l.rows l.minimum l.places);
  inside : AllByRecursion (λ i. i < length l.rows) l.rest;
}

abbrev pub decreases-segments : goal.decreases-segments
decreases-segments l = length l.rest
