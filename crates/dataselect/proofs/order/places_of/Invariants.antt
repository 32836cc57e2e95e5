use Rattle.std.proofs.Common.{◌≡◌, ◌++◌, map, ℕ}
use Rattle.dataselect.specs.declared.order.Rank.{Rank}
use Rattle.dataselect.proofs.order.places_of.Given as goal

abbrev pub invariant-ranks : goal.invariant-ranks
invariant-ranks l = l.places ++ map {A = Rank} {B = ℕ} (λ r. r.index) l.rank-iterator ≡ map {A = Rank} {B = ℕ} (λ r. r.index) l.ranks.keys
