use Rattle.std.proofs.Common.{◌≡◌, length, map}
use Rattle.epochs.specs.Fields.{are_distinct}
use Rattle.epochs.proofs.roles.are_distinct.Given as goal

abbrev pub invariant-words : goal.invariant-words
invariant-words l = are_distinct (map (λ x. x.now) l.left) ≡ are_distinct (map (λ x. x.now) l.words)

abbrev pub decreases-words : goal.decreases-words
decreases-words l = length l.left
