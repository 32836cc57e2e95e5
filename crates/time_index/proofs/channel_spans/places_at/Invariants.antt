use Rattle.std.proofs.Common.{◌≡◌, [], map, ℕ, nat_cmp}
use Rattle.list_laws.specs.InOrder.{in_order}
use Rattle.time_index.specs.declared.spot.Spot.{Spot}
use Rattle.time_index.proofs.channel_spans.places_at.Given as goal

abbrev pub invariant-spots : goal.invariant-spots
invariant-spots l =
    in_order nat_cmp l.places.keys (map {A = Spot} {B = ℕ} (λ s. s.place) l.spot-iterator)
    ≡ in_order nat_cmp [] (map {A = Spot} {B = ℕ} (λ s. s.place) l.spots.keys)
