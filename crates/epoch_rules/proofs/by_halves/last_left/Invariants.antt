use Rattle.std.proofs.Common.{◌≡◌, map, length}
use Rattle.epochs.specs.Views.{values_of_line}
use Rattle.epoch_rules.specs.Overlays.{left_of}
use Rattle.epoch_rules.proofs.by_halves.last_left.Given as goal

-- those that were passed are among the keys
abbrev pub invariant-lines : goal.invariant-lines
invariant-lines l = left_of l.gone (map values_of_line l.rest) ≡ left_of l.gone (map values_of_line l.fn.lines)

abbrev pub decreases-lines : goal.decreases-lines
decreases-lines l = length l.rest
