-- One key more or less in a sorted list.
use Rattle.std.proofs.Common.{◌≡◌, ◌∙◌, false, not, cond, List, [], ◌∷◌, filter, refl, ap, Ordering}
use Rattle.std.specs.List.{list_any, AllByRecursion}
use Rattle.std.specs.List.Sorted.{IsStrictlySortedBy}
use Rattle.std.specs.Ordering.{is_eq, match_ordering}
use Rattle.std.specs.declared.cmp.Ordering.TheVariants.{Less, Equal, Greater}
use Rattle.std.specs.Cmp.{IsTotalOrder}
use Rattle.std.specs.BTreeSet.{insert_key, replace_key}
use Rattle.std.specs.Set.{remove_key}
use Rattle.std.proofs.lemmas.Bool.{or_parts}

module _ {K : Type 0} (cmp : K → K → Ordering) where
  pub sorted_head : (x : K) (xs : List K) → IsStrictlySortedBy cmp (x ∷ xs) → AllByRecursion (λ y. cmp x y ≡ Less) xs
  unfolding IsStrictlySortedBy
  sorted_head x xs up = up.0

  pub sorted_tail : (x : K) (xs : List K) → IsStrictlySortedBy cmp (x ∷ xs) → IsStrictlySortedBy cmp xs
  unfolding IsStrictlySortedBy
  sorted_tail x xs up = up.1

  abbrev pub but : K → List K → List K
  but k ks = filter (λ x. not (is_eq (cmp k x))) ks

  all_but : (k : K) (xs : List K) → AllByRecursion (λ y. cmp k y ≡ Less) xs → but k xs ≡ xs
  all_but k [] all = refl
  all_but k (x ∷ xs) all = ap (λ r. cond (not (is_eq r)) (x ∷ but k xs) (but k xs)) all.0 ∙ ap (λ l. x ∷ l) (all_but k xs all.1)

module _ {K : Type 0} {cmp : K → K → Ordering} (o : IsTotalOrder cmp) where
  pub all_above : (k x : K) (xs : List K) → cmp k x ≡ Less → AllByRecursion (λ y. cmp x y ≡ Less) xs → AllByRecursion (λ y. cmp k y ≡ Less) xs
  all_above k x [] h all = tt
  all_above k x (y ∷ ys) h all = (o.trans k x y h all.0, all_above k x ys h all.1)

  pub all_level : (k x : K) (xs : List K) → cmp k x ≡ Equal → AllByRecursion (λ y. cmp x y ≡ Less) xs → AllByRecursion (λ y. cmp k y ≡ Less) xs
  all_level k x [] h all = tt
  all_level k x (y ∷ ys) h all = (o.congr k x y h ∙ all.0, all_level k x ys h all.1)

  pub taken_out : (k : K) (ks : List K) → IsStrictlySortedBy cmp ks → but cmp k ks ≡ remove_key (λ x. is_eq (cmp k x)) ks
  taken_out k [] up = refl
  taken_out k (x ∷ xs) up =
      let above = sorted_head cmp x xs up in
      let rest = but cmp k xs in
      elim (cmp k x) as (λ r. cmp k x ≡ r → cond (not (is_eq r)) (x ∷ rest) rest ≡ cond (is_eq r) xs (x ∷ remove_key (λ y. is_eq (cmp k y)) xs)) [
        | Less ↦ λ h. ap (λ l. x ∷ l) (taken_out k xs (sorted_tail cmp x xs up))
        | Equal ↦ λ h. all_but cmp k xs (all_level k x xs h above)
        | Greater ↦ λ h. ap (λ l. x ∷ l) (taken_out k xs (sorted_tail cmp x xs up))
      ] refl

-- a key that isn't there replaces none
pub replace_absent : {K : Type 0} (cmp : K → K → Ordering) (k : K) (ks : List K) → list_any (λ x. is_eq (cmp k x)) ks ≡ false → replace_key cmp ks k ≡ insert_key cmp ks k
replace_absent cmp k [] none = refl
replace_absent cmp k (x ∷ xs) none =
    let n = or_parts (is_eq (cmp k x)) (list_any (λ y. is_eq (cmp k y)) xs) none in
    elim (cmp k x) as (λ r. is_eq r ≡ false → match_ordering r (k ∷ x ∷ xs) (k ∷ xs) (x ∷ replace_key cmp xs k) ≡ match_ordering r (k ∷ x ∷ xs) (x ∷ xs) (x ∷ insert_key cmp xs k)) [
      | Less ↦ λ _. refl
      | Equal ↦ λ h. (cc)
      | Greater ↦ λ _. ap (λ l. x ∷ l) (replace_absent cmp k xs n.1)
    ] n.0
