use Rattle.std.proofs.Common.{length}
use Rattle.entry_bodies.proofs.Bodies.{ReadSoFar}
use Rattle.entry_bodies.proofs.reading.entries_in.Given as goal

abbrev pub invariant-pieces : goal.invariant-pieces
invariant-pieces l = ReadSoFar l.body l.entries l.left

abbrev pub decreases-pieces : goal.decreases-pieces
decreases-pieces l = length l.left
