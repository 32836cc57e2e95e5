use Rattle.std.proofs.Common.{length, map}
use Rattle.epochs.specs.Views.{values_of_line}
use Rattle.epochs.specs.Reading.{HasReadLines}
use Rattle.epochs.proofs.revision.read_revision.Given as goal

abbrev pub invariant-lines : goal.invariant-lines
invariant-lines l = HasReadLines l.body l.left l.number (map values_of_line l.lines)

abbrev pub decreases-lines : goal.decreases-lines
decreases-lines l = length l.left
