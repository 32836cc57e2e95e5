use Rattle.std.proofs.Common.{◌≡◌, length}
use Rattle.channel_globs.specs.PatternText.{drop_end_spaces}
use Rattle.query_parameters.proofs.lines.before_spaces.Given as goal

abbrev pub invariant-end : goal.invariant-end
invariant-end l = drop_end_spaces l.left ≡ drop_end_spaces l.text

abbrev pub decreases-end : goal.decreases-end
decreases-end l = length l.left
