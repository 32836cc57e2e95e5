-- Keys put in order, one list after another; and one key more.
use Rattle.std.proofs.Common.{◌≡◌, ℕ, ◌+◌, ◌<◌, List, [], ◌∷◌, ◌++◌, map, length, get_or, drop, refl, sym, ap, ◌∙◌, Ordering, add-one, drop-cons}
use Rattle.std.specs.BTreeSet.{insert_key}
use Rattle.std.specs.List.{flat_map}
use Rattle.list_laws.specs.InOrder.{in_order}

pub in_order-append : {K : Type 0} (cmp : K → K → Ordering) (done xs ys : List K) → in_order cmp done (xs ++ ys) ≡ in_order cmp (in_order cmp done xs) ys
in_order-append cmp done [] ys = refl
in_order-append cmp done (x ∷ xs) ys = in_order-append cmp (insert_key cmp done x) xs ys

dropped : {X : Type 0} (xs : List X) (i : ℕ) (x : X) → i < length xs → x ≡ get_or xs i x → drop i xs ≡ x ∷ drop (i + 1) xs
dropped xs i x h is = rw (drop-cons xs i x h, ← is, add-one i) refl

-- one more is put in order
pub put_one : {X K : Type 0} (cmp : K → K → Ordering) (f : X → K) (done : List K) (i : ℕ) (xs : List X) (x : X) → i < length xs → x ≡ get_or xs i x
    → in_order cmp (insert_key cmp done (f x)) (map f (drop (i + 1) xs)) ≡ in_order cmp done (map f (drop i xs))
put_one cmp f done i xs x h is = sym (ap (λ ys. in_order cmp done (map f ys)) (dropped xs i x h is))

-- what is made of one more
pub put_more : {X K : Type 0} (cmp : K → K → Ordering) (f : X → List K) (done : List K) (i : ℕ) (xs : List X) (x : X) → i < length xs → x ≡ get_or xs i x
    → in_order cmp (in_order cmp done (f x)) (flat_map f (drop (i + 1) xs)) ≡ in_order cmp done (flat_map f (drop i xs))
put_more cmp f done i xs x h is =
    sym (in_order-append cmp done (f x) (flat_map f (drop (i + 1) xs)))
    ∙ sym (ap (λ ys. in_order cmp done (flat_map f ys)) (dropped xs i x h is))
