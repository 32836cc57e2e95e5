-- Keys put in order: what holds of each, how many there are, that they are sorted, which they are.
use Rattle.std.proofs.Common.{◌≡◌, ◌+◌, ◌≤◌, Bool, true, false, ◌||◌, List, [], ◌∷◌, length, refl, sym, ap, ◌∙◌, arith, Ordering}
use Rattle.std.specs.List.{list_any, AllByRecursion}
use Rattle.std.specs.List.Sorted.{IsStrictlySortedBy}
use Rattle.std.specs.Ordering.{eq_by_cmp, match_ordering, ordering_reverse}
use Rattle.std.specs.declared.cmp.Ordering.TheVariants.{Less, Equal, Greater}
use Rattle.std.specs.Cmp.{IsTotalOrder}
use Rattle.std.specs.BTreeSet.{insert_key}
use Rattle.std.proofs.lemmas.Map.Lookups.{CmpEqualImpliesEq, btree_set_from_contains}
use Rattle.list_laws.specs.InOrder.{in_order}

module _ {K : Type 0} (cmp : K → K → Ordering) where
  all_inserted : (P : K → Type 0) (ks : List K) (k : K) → AllByRecursion P ks → P k → AllByRecursion P (insert_key cmp ks k)
  all_inserted P [] k all one = (one, tt)
  all_inserted P (x ∷ xs) k all one =
      elim (cmp k x) as (λ o. AllByRecursion P (match_ordering o (k ∷ x ∷ xs) (x ∷ xs) (x ∷ insert_key cmp xs k))) [
        | Less ↦ (one, all)
        | Equal ↦ all
        | Greater ↦ (all.0, all_inserted P xs k all.1 one)
      ]

  pub all_in_order : (P : K → Type 0) (done keys : List K) → AllByRecursion P done → AllByRecursion P keys → AllByRecursion P (in_order cmp done keys)
  all_in_order P done [] all more = all
  all_in_order P done (k ∷ keys) all more = all_in_order P (insert_key cmp done k) keys (all_inserted P done k all more.0) more.1

  length_inserted : (ks : List K) (k : K) → length (insert_key cmp ks k) ≤ length ks + 1
  length_inserted [] k = omega arith
  length_inserted (x ∷ xs) k =
      let more = length_inserted xs k in
      elim (cmp k x) as (λ o. length (match_ordering o (k ∷ x ∷ xs) (x ∷ xs) (x ∷ insert_key cmp xs k)) ≤ length (x ∷ xs) + 1) [
        | Less ↦ omega arith
        | Equal ↦ omega arith
        | Greater ↦ omega arith
      ]

  pub length_in_order : (done keys : List K) → length (in_order cmp done keys) ≤ length done + length keys
  length_in_order done [] = omega arith
  length_in_order done (k ∷ keys) = omega (arith, length_in_order (insert_key cmp done k) keys, length_inserted done k)

or_left : (a b c : Bool) → (a || (b || c)) ≡ (b || (a || c))
or_left true true c = refl
or_left true false c = refl
or_left false b c = refl

or_same : (a b : Bool) → (a || b) ≡ (a || (a || b))
or_same true b = refl
or_same false b = refl

or_swapped : (a b c : Bool) → (b || (a || c)) ≡ ((a || b) || c)
or_swapped true true c = refl
or_swapped true false c = refl
or_swapped false b c = refl

-- an inserted key is found besides
any_inserted : {K : Type 0} (cmp : K → K → Ordering) (test : K → Bool) (ks : List K) (k : K) → ((x : K) → cmp k x ≡ Equal → test x ≡ test k) → list_any test (insert_key cmp ks k) ≡ (test k || list_any test ks)
any_inserted cmp test [] k same = refl
any_inserted {K} cmp test (x ∷ xs) k same =
    elim (cmp k x) as (λ o. cmp k x ≡ o → list_any test (match_ordering o (k ∷ x ∷ xs) (x ∷ xs) (x ∷ insert_key cmp xs k)) ≡ (test k || (test x || list_any test xs))) [
      | Less ↦ λ _. refl
      | Equal ↦ λ e. ap (λ b. b || list_any test xs) (same x e) ∙ or_same (test k) (list_any test xs) ∙ ap (λ b. test k || (b || list_any test xs)) (sym (same x e))
      | Greater ↦ λ _. ap (λ b. test x || b) (any_inserted cmp test xs k same) ∙ or_left (test x) (test k) (list_any test xs)
    ] refl

module _ {K : Type 0} {cmp : K → K → Ordering} (o : IsTotalOrder cmp) where
  all_above : (k x : K) (xs : List K) → cmp k x ≡ Less → AllByRecursion (λ y. cmp x y ≡ Less) xs → AllByRecursion (λ y. cmp k y ≡ Less) xs
  all_above k x [] h all = tt
  all_above k x (y ∷ ys) h all = (o.trans k x y h all.0, all_above k x ys h all.1)

  sorted_inserted : (ks : List K) (k : K) → IsStrictlySortedBy cmp ks → IsStrictlySortedBy cmp (insert_key cmp ks k)
  unfolding IsStrictlySortedBy
  sorted_inserted [] k up = (tt, tt)
  sorted_inserted (x ∷ xs) k up =
      elim (cmp k x) as (λ r. cmp k x ≡ r → IsStrictlySortedBy cmp (match_ordering r (k ∷ x ∷ xs) (x ∷ xs) (x ∷ insert_key cmp xs k))) [
        | Less ↦ λ e. ((e, all_above k x xs e up.0), up)
        | Equal ↦ λ _. up
        | Greater ↦ λ e. (all_inserted cmp (λ y. cmp x y ≡ Less) xs k up.0 (o.antisymm x k ∙ ap ordering_reverse e), sorted_inserted xs k up.1)
      ] refl

  empty_sorted : IsStrictlySortedBy cmp []
  unfolding IsStrictlySortedBy
  empty_sorted = tt

  sorted_more : (done keys : List K) → IsStrictlySortedBy cmp done → IsStrictlySortedBy cmp (in_order cmp done keys)
  sorted_more done [] up = up
  sorted_more done (k ∷ keys) up = sorted_more (insert_key cmp done k) keys (sorted_inserted done k up)

  pub sorted_in_order : (keys : List K) → IsStrictlySortedBy cmp (in_order cmp [] keys)
  sorted_in_order keys = sorted_more [] keys empty_sorted

module _ {K : Type 0} {cmp : K → K → Ordering} (exact : CmpEqualImpliesEq cmp) where
  any_more : (test : K → Bool) (done keys : List K) → list_any test (in_order cmp done keys) ≡ (list_any test keys || list_any test done)
  any_more test done [] = refl
  any_more test done (k ∷ keys) =
      any_more test (insert_key cmp done k) keys
      ∙ ap (λ b. list_any test keys || b) (any_inserted cmp test done k (λ x h. ap test (sym (exact k x h))))
      ∙ or_swapped (test k) (list_any test keys) (list_any test done)

  or_none : (a : Bool) → (a || false) ≡ a
  or_none true = refl
  or_none false = refl

  -- the keys in order are the keys
  pub any_in_order : (test : K → Bool) (keys : List K) → list_any test (in_order cmp [] keys) ≡ list_any test keys
  any_in_order test keys = any_more test [] keys ∙ or_none (list_any test keys)

-- the order depends on which keys there are alone
pub same_in_order : {K : Type 0} {cmp : K → K → Ordering} (o : IsTotalOrder cmp) (exact : CmpEqualImpliesEq cmp) (xs ys : List K)
    → ((q : K) → list_any (eq_by_cmp cmp q) xs ≡ list_any (eq_by_cmp cmp q) ys) → in_order cmp [] xs ≡ in_order cmp [] ys
same_in_order {K} {cmp} o exact xs ys same =
    btree_set_from_contains o (record { keys = in_order cmp [] xs }) (record { keys = in_order cmp [] ys }) (sorted_in_order o xs) (sorted_in_order o ys)
    (λ q. any_in_order exact (eq_by_cmp cmp q) xs ∙ same q ∙ sym (any_in_order exact (eq_by_cmp cmp q) ys)) exact
