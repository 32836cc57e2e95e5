use Rattle.std.proofs.Common.{◌≡◌, ◌≤◌, length}
use Rattle.mseed_header.specs.CodeField.{without_fill}
use Rattle.mseed_header.proofs.code_field.before_fill.Given as goal

abbrev pub invariant-end : goal.invariant-end
invariant-end l = (without_fill l.left ≡ without_fill l.field) × (length l.left ≤ length l.field)

abbrev pub decreases-end : goal.decreases-end
decreases-end l = length l.left
