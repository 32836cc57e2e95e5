use Rattle.std.proofs.Common.{◌≡◌, List, ◌++◌, map, length}
use Rattle.epochs.specs.Lines.{LineValues}
use Rattle.epochs.specs.Views.{values_of_line}
use Rattle.epoch_catalog.specs.Merging.{AreFound}
use Rattle.epoch_catalog.proofs.merging.find_heads.Given as goal

-- those that were found are the last of the lines behind
abbrev pub invariant-lines : goal.invariant-lines
invariant-lines l = (behind : List LineValues) × (map values_of_line l.fn.lines ≡ map values_of_line l.rest ++ behind) × AreFound behind l.keys (map (λ head. values_of_line head.now) l.heads.items)

abbrev pub decreases-lines : goal.decreases-lines
decreases-lines l = length l.rest
