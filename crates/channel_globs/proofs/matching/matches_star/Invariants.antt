use Rattle.std.proofs.Common.{length, ◌+◌, ◌↔◌, ◌∷◌}
use Rattle.channel_globs.specs.Matching.{Matches}
use Rattle.channel_globs.proofs.matching.matches_star.Given as goal

abbrev pub invariant-places : goal.invariant-places
invariant-places l = Matches (42 ∷ l.pattern) l.code ↔ Matches (42 ∷ l.glob) l.left

abbrev pub decreases-places : goal.decreases-places
decreases-places l = length l.glob + length l.left
