-- Keys in order are those of one owner behind those of another, where the owners are in order.
use Rattle.std.proofs.Common.{◌≡◌, Bool, true, false, ◌||◌, ◌&&◌, cond, List, [], ◌∷◌, ◌++◌, filter, refl, sym, ap, ◌∙◌, Ordering}
use Rattle.std.specs.List.{list_any, flat_map, AllByRecursion}
use Rattle.std.specs.List.Sorted.{IsStrictlySortedBy}
use Rattle.std.specs.Ordering.{eq_by_cmp}
use Rattle.std.specs.declared.cmp.Ordering.TheVariants.{Less}
use Rattle.std.specs.Cmp.{IsTotalOrder}
use Rattle.std.proofs.lemmas.List.Folds.{list_any-append}
use Rattle.std.proofs.lemmas.Map.Lookups.{CmpEqualImpliesEq, btree_set_from_contains}
use Rattle.list_laws.specs.InOrder.{in_order}
use Rattle.list_laws.proofs.Keys.{all_in_order, sorted_in_order, any_in_order}

pub all_append : {X : Type 0} (P : X → Type 0) (xs ys : List X) → AllByRecursion P xs → AllByRecursion P ys → AllByRecursion P (xs ++ ys)
all_append P [] ys all more = more
all_append P (x ∷ xs) ys all more = (all.0, all_append P xs ys all.1 more)

pub all_weaker : {X : Type 0} (P Q : X → Type 0) → ((x : X) → P x → Q x) → (xs : List X) → AllByRecursion P xs → AllByRecursion Q xs
all_weaker P Q f [] all = tt
all_weaker P Q f (x ∷ xs) all = (f x all.0, all_weaker P Q f xs all.1)

pub all_filtered : {X : Type 0} (test : X → Bool) (xs : List X) → AllByRecursion (λ x. test x ≡ true) (filter test xs)
all_filtered test [] = tt
all_filtered {X} test (x ∷ xs) =
    elim (test x) as (λ b. test x ≡ b → AllByRecursion (λ (y : X). test y ≡ true) (cond b (x ∷ filter test xs) (filter test xs))) [
      | true ↦ λ e. (e, all_filtered test xs)
      | false ↦ λ _. all_filtered test xs
    ] refl

four : (a b c d : Bool) → ((a || b) || (c || d)) ≡ ((a || c) || (b || d))
four true b c d = refl
four false true true d = refl
four false true false d = refl
four false false c d = refl

both : (a t r : Bool) → ((a && t) || (r && t)) ≡ ((a || r) && t)
both true true r = refl
both true false true = refl
both true false false = refl
both false t r = refl

-- some of one list and some of another, name by name
module _ {N : Type 0} where
  or_split : (A B : N → Bool) (names : List N) → list_any (λ n. A n || B n) names ≡ (list_any A names || list_any B names)
  or_split A B [] = refl
  or_split A B (n ∷ names) = ap (λ r. (A n || B n) || r) (or_split A B names) ∙ four (A n) (B n) (list_any A names) (list_any B names)

  and_out : (A : N → Bool) (t : Bool) (names : List N) → list_any (λ n. A n && t) names ≡ (list_any A names && t)
  and_out A t [] = refl
  and_out A t (n ∷ names) = ap (λ r. (A n && t) || r) (and_out A t names) ∙ both (A n) t (list_any A names)

  none : (names : List N) → list_any (λ (n : N). false) names ≡ false
  none [] = refl
  none (n ∷ names) = none names

module _ {K N : Type 0} {cmp : K → K → Ordering} {ncmp : N → N → Ordering} (total : IsTotalOrder cmp) (exact : CmpEqualImpliesEq cmp) (own : N → K → Bool)
    (below : (m n : N) (a b : K) → ncmp m n ≡ Less → own m a ≡ true → own n b ≡ true → cmp a b ≡ Less) (xs : List K) where
  -- the keys of one owner, in order
  abbrev pub part : N → List K
  part n = in_order cmp [] (filter (own n) xs)

  pub all_part : (n : N) → AllByRecursion (λ x. own n x ≡ true) (part n)
  all_part n = all_in_order cmp (λ x. own n x ≡ true) [] (filter (own n) xs) tt (all_filtered (own n) xs)

  sorted_append : (ks ls : List K) → IsStrictlySortedBy cmp ks → IsStrictlySortedBy cmp ls → AllByRecursion (λ a. AllByRecursion (λ b. cmp a b ≡ Less) ls) ks → IsStrictlySortedBy cmp (ks ++ ls)
  unfolding IsStrictlySortedBy
  sorted_append [] ls up uq all = uq
  sorted_append (a ∷ ks) ls up uq all = (all_append (λ b. cmp a b ≡ Less) ks ls up.0 all.0, sorted_append ks ls up.1 uq all.1)

  all_later : (n : N) (a : K) → own n a ≡ true → (names : List N) → AllByRecursion (λ m. ncmp n m ≡ Less) names → AllByRecursion (λ b. cmp a b ≡ Less) (flat_map part names)
  all_later n a o [] all = tt
  all_later n a o (m ∷ names) all =
      all_append (λ b. cmp a b ≡ Less) (part m) (flat_map part names)
      (all_weaker (λ b. own m b ≡ true) (λ b. cmp a b ≡ Less) (λ b p. below n m a b all.0 o p) (part m) (all_part m))
      (all_later n a o names all.1)

  sorted_parts : (names : List N) → IsStrictlySortedBy ncmp names → IsStrictlySortedBy cmp (flat_map part names)
  unfolding IsStrictlySortedBy
  sorted_parts [] up = tt
  sorted_parts (n ∷ names) up =
      sorted_append (part n) (flat_map part names) (sorted_in_order total (filter (own n) xs)) (sorted_parts names up.1)
      (all_weaker (λ a. own n a ≡ true) (λ a. AllByRecursion (λ b. cmp a b ≡ Less) (flat_map part names)) (λ a o. all_later n a o names up.0) (part n) (all_part n))

  any_parts : (test : K → Bool) (names : List N) → list_any test (flat_map part names) ≡ list_any (λ n. list_any test (filter (own n) xs)) names
  any_parts test [] = refl
  any_parts test (n ∷ names) = list_any-append test (part n) (flat_map part names) ∙ (λ i. any_in_order exact test (filter (own n) xs) i || any_parts test names i)

  one : (test : K → Bool) (x : K) (rest : List K) (b : Bool) → list_any test (cond b (x ∷ rest) rest) ≡ ((b && test x) || list_any test rest)
  one test x rest true = refl
  one test x rest false = refl

  any_owned : (test : K → Bool) (names : List N) (ys : List K) → AllByRecursion (λ y. list_any (λ n. own n y) names ≡ true) ys → list_any (λ n. list_any test (filter (own n) ys)) names ≡ list_any test ys
  any_owned test names [] cover = none names
  any_owned test names (y ∷ ys) cover =
      (λ i. list_any (λ n. one test y (filter (own n) ys) (own n y) i) names)
      ∙ or_split (λ n. own n y && test y) (λ n. list_any test (filter (own n) ys)) names
      ∙ (λ i. (and_out (λ n. own n y) (test y) names ∙ ap (λ b. b && test y) cover.0) i || any_owned test names ys cover.1 i)

  -- all keys in order, where each has an owner
  pub split : (names : List N) → IsStrictlySortedBy ncmp names → AllByRecursion (λ x. list_any (λ n. own n x) names ≡ true) xs → in_order cmp [] xs ≡ flat_map part names
  split names up cover =
      btree_set_from_contains total (record { keys = in_order cmp [] xs }) (record { keys = flat_map part names }) (sorted_in_order total xs) (sorted_parts names up)
      (λ q. any_in_order exact (eq_by_cmp cmp q) xs ∙ sym (any_parts (eq_by_cmp cmp q) names ∙ any_owned (eq_by_cmp cmp q) names xs cover)) exact
