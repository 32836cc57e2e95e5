-- Keys in order, each once.
use Rattle.std.specs.Prelude.{List, [], ◌∷◌}
use Rattle.std.specs.declared.cmp.Ordering.{Ordering}
use Rattle.std.specs.BTreeSet.{insert_key}

-- the keys, put in order one after another into those that are in order already
abbrev pub in_order : {K : Type 0} → (K → K → Ordering) → List K → List K → List K
in_order cmp done [] = done
in_order cmp done (key ∷ keys) = in_order cmp (insert_key cmp done key) keys
