use Rattle.std.proofs.Common.{◌≡◌, ◌≤◌, length}
use Rattle.http_wire.specs.Taking.{skip_blank}
use Rattle.http_wire.proofs.front.skip_blank.Given as goal

abbrev pub invariant-blanks : goal.invariant-blanks
invariant-blanks l = (skip_blank l.left ≡ skip_blank l.text) × (length l.left ≤ length l.text)

abbrev pub decreases-blanks : goal.decreases-blanks
decreases-blanks l = length l.left
