-- The greater of two under an order.
use Rattle.std.specs.declared.cmp.Ordering.{Ordering}
use Rattle.std.specs.Ordering.{match_ordering}

abbrev pub greater : {K : Type 0} → (K → K → Ordering) → K → K → K
greater cmp a b = match_ordering (cmp a b) b a a
