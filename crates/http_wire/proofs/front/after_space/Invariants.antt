use Rattle.std.proofs.Common.{◌≡◌, ◌≤◌, length}
use Rattle.http_wire.specs.Fronts.{after_space}
use Rattle.http_wire.proofs.front.after_space.Given as goal

abbrev pub invariant-bytes : goal.invariant-bytes
invariant-bytes l = (after_space l.left ≡ after_space l.text) × (length l.left ≤ length l.text)

abbrev pub decreases-bytes : goal.decreases-bytes
decreases-bytes l = length l.left
