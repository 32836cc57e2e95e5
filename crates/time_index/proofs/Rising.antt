-- Ranks that rise are in order already.
use Rattle.std.proofs.Common.{◌≡◌, ℕ, ◌+◌, ◌<◌, false, List, [], ◌∷◌, length, get_or, refl}
use Rattle.std.specs.List.Sorted.{IsStrictlySortedBy}
use Rattle.std.specs.Ordering.{is_ge, eq_by_cmp}
use Rattle.std.specs.declared.cmp.Ordering.{Ordering}
use Rattle.std.specs.declared.cmp.Ordering.TheVariants.{Less, Equal, Greater}
use Rattle.std.proofs.lemmas.Map.Keys.{sorted_from_all_adjacent}
use Rattle.std.proofs.lemmas.Map.Lookups.{btree_set_from_contains}
use Rattle.list_laws.specs.InOrder.{in_order}
use Rattle.list_laws.proofs.Keys.{any_in_order, sorted_in_order}
use Rattle.dataselect.specs.declared.order.Rank.{Rank}
use Rattle.dataselect.specs.Order.{rank_cmp}
use Rattle.dataselect.proofs.Ranks.{ranks_total, exact_ranks}

-- up to an index, each rank is below the next
abbrev pub RiseTo : List Rank → ℕ → Type 0
RiseTo ranks n = (k : ℕ) (d : Rank) → k + 1 < n → rank_cmp (get_or ranks k d) (get_or ranks (k + 1) d) ≡ Less

pub less_of : (o : Ordering) → is_ge o ≡ false → o ≡ Less
less_of Less h = refl
less_of Equal h = absurd (cc)
less_of Greater h = absurd (cc)

-- then each is below all that follow
pub rising : (ranks : List Rank) → RiseTo ranks (length ranks) → IsStrictlySortedBy rank_cmp ranks
unfolding IsStrictlySortedBy
rising [] h = tt
rising (r ∷ ranks) h = sorted_from_all_adjacent ranks_total (r ∷ ranks) r (λ k l. h k r l)

pub in_order_already : (ranks : List Rank) → IsStrictlySortedBy rank_cmp ranks → in_order rank_cmp [] ranks ≡ ranks
in_order_already ranks up =
    btree_set_from_contains ranks_total (record { keys = in_order rank_cmp [] ranks }) (record { keys = ranks }) (sorted_in_order ranks_total ranks) up
    (λ q. any_in_order exact_ranks (eq_by_cmp rank_cmp q) ranks) exact_ranks
