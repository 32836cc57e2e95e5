use Rattle.std.proofs.Common.{◌≡◌, ◌++◌, map, drop, ℕ}
use Rattle.dataselect.specs.declared.order.Rank.{Rank}
use Rattle.time_index.proofs.windows.list_places.Given as goal

abbrev pub invariant-ranks : goal.invariant-ranks
invariant-ranks l = l.places ++ map {A = Rank} {B = ℕ} (λ rank. rank.index) (drop l.rank-index l.ranks) ≡ map {A = Rank} {B = ℕ} (λ rank. rank.index) l.ranks
