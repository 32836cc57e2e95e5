use Rattle.std.proofs.Common.{◌≡◌, ◌++◌, ◌<◌, length, take}
use Rattle.std.specs.List.{AllByRecursion, concat}
use Rattle.dataselect.specs.Picked.{long_segments, longest_segments, NamesRise}
use Rattle.dataselect.proofs.Waits.{to_put}
use Rattle.dataselect.proofs.picked.longest_places.Given as goal

abbrev pub invariant-segments : goal.invariant-segments
invariant-segments l = record {
  picked : l.picked ++ to_put l.rows l.best (long_segments l.rows l.minimum l.rest) ≡ concat (longest_segments l.rows l.minimum l.places);
  best_inside : AllByRecursion (λ i. i < length l.rows) l.best;
  inside : AllByRecursion (λ i. i < length l.rows) l.rest;
  names : NamesRise l.rows (take 1 l.best ++ l.rest);
}

abbrev pub decreases-segments : goal.decreases-segments
decreases-segments l = length l.rest
