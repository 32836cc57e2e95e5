use Rattle.std.proofs.Common.{◌≡◌, length}
use Rattle.channel_globs.specs.PatternText.{drop_spaces}
use Rattle.query_parameters.proofs.lines.after_spaces.Given as goal

abbrev pub invariant-front : goal.invariant-front
invariant-front l = drop_spaces l.left ≡ drop_spaces l.text

abbrev pub decreases-front : goal.decreases-front
decreases-front l = length l.left
