-- Which element of a list has a key: the first, the last, and in a sorted list the one. Two sorted lists
-- that have the same element of each key are one.
use Rattle.std.proofs.Common.{◌≡◌, Bool, true, false, cond, ◌||◌, List, [], ◌∷◌, ◌++◌, filter, Option, Some, None, refl, sym, ap, ◌∙◌, Ordering}
use Rattle.std.specs.Option.{option_or, is_some}
use Rattle.std.specs.List.{list_any, AllByRecursion}
use Rattle.std.specs.List.Sorted.{IsStrictlySortedBy}
use Rattle.std.specs.Ordering.{is_eq, match_ordering, ordering_reverse}
use Rattle.std.specs.declared.cmp.Ordering.TheVariants.{Less, Equal, Greater}
use Rattle.std.specs.Cmp.{IsTotalOrder}
use Rattle.std.specs.BTreeSet.{insert_key}
use Rattle.std.proofs.lemmas.Cmp.{tied_itself}
use Rattle.std.proofs.lemmas.Map.Entries.{option_filter}
use Rattle.list_laws.specs.InOrder.{in_order}

pub is_equal : (o : Ordering) → is_eq o ≡ true → o ≡ Equal
is_equal Less h = cc
is_equal Equal h = refl
is_equal Greater h = cc

pub or_none : {E : Type 0} (a : Option E) → option_or a None ≡ a
or_none None = refl
or_none (Some x) = refl

pub or_assoc : {E : Type 0} (a b c : Option E) → option_or (option_or a b) c ≡ option_or a (option_or b c)
or_assoc None b c = refl
or_assoc (Some x) b c = refl

or_found : {E : Type 0} (b : Bool) (x : E) (a : Option E) → option_or (cond b (Some x) None) a ≡ cond b (Some x) a
or_found true x a = refl
or_found false x a = refl

pub filter_twice : {E : Type 0} (p : E → Bool) (a : Option E) → option_filter p (option_filter p a) ≡ option_filter p a
filter_twice p None = refl
filter_twice p (Some x) =
    elim (p x) as (λ b. p x ≡ b → option_filter p (cond b (Some x) None) ≡ cond b (Some x) None) [
      | true ↦ λ e. ap (λ b. cond b (Some x) None) e
      | false ↦ λ _. refl
    ] refl

is_some_or : {E : Type 0} (b : Bool) (x : E) (a : Option E) → is_some (option_or a (cond b (Some x) None)) ≡ (b || is_some a)
is_some_or true x None = refl
is_some_or true x (Some y) = refl
is_some_or false x None = refl
is_some_or false x (Some y) = refl

module _ {E : Type 0} (cmp : E → E → Ordering) where
  -- the first element of a key
  abbrev pub first_of : E → List E → Option E
  first_of q [] = None
  first_of q (x ∷ xs) = cond (is_eq (cmp q x)) (Some x) (first_of q xs)

  -- the last element of a key
  abbrev pub last_of : E → List E → Option E
  last_of q [] = None
  last_of q (x ∷ xs) = option_or (last_of q xs) (cond (is_eq (cmp q x)) (Some x) None)

  pub first_hit : (q x : E) (xs : List E) → cmp q x ≡ Equal → first_of q (x ∷ xs) ≡ Some x
  first_hit q x xs e = ap (λ o. cond (is_eq o) (Some x) (first_of q xs)) e

  pub first_miss : (q x : E) (xs : List E) → is_eq (cmp q x) ≡ false → first_of q (x ∷ xs) ≡ first_of q xs
  first_miss q x xs e = ap (λ b. cond b (Some x) (first_of q xs)) e

  pub none_above : (q : E) (xs : List E) → AllByRecursion (λ y. cmp q y ≡ Less) xs → first_of q xs ≡ None
  none_above q [] all = refl
  none_above q (x ∷ xs) all = first_miss q x xs (ap is_eq all.0) ∙ none_above q xs all.1

  pub last_append : (q : E) (xs ys : List E) → last_of q (xs ++ ys) ≡ option_or (last_of q ys) (last_of q xs)
  last_append q [] ys = sym (or_none (last_of q ys))
  last_append q (x ∷ xs) ys =
      let w = cond (is_eq (cmp q x)) (Some x) None in
      ap (λ a. option_or a w) (last_append q xs ys) ∙ or_assoc (last_of q ys) (last_of q xs) w

  pub first_append : (q : E) (xs ys : List E) → first_of q (xs ++ ys) ≡ option_or (first_of q xs) (first_of q ys)
  first_append q [] ys = refl
  first_append q (x ∷ xs) ys =
      elim (is_eq (cmp q x)) as (λ b. cond b (Some x) (first_of q (xs ++ ys)) ≡ option_or (cond b (Some x) (first_of q xs)) (first_of q ys)) [
        | true ↦ refl
        | false ↦ first_append q xs ys
      ]

  -- a key is found exactly where some element has it
  pub any_last : (q : E) (xs : List E) → list_any (λ y. is_eq (cmp q y)) xs ≡ is_some (last_of q xs)
  any_last q [] = refl
  any_last q (x ∷ xs) = ap (λ b. is_eq (cmp q x) || b) (any_last q xs) ∙ sym (is_some_or (is_eq (cmp q x)) x (last_of q xs))

  pub any_first : (q : E) (xs : List E) → list_any (λ y. is_eq (cmp q y)) xs ≡ is_some (first_of q xs)
  any_first q [] = refl
  any_first q (x ∷ xs) =
      elim (is_eq (cmp q x)) as (λ b. (b || list_any (λ y. is_eq (cmp q y)) xs) ≡ is_some (cond b (Some x) (first_of q xs))) [
        | true ↦ refl
        | false ↦ any_first q xs
      ]

module _ {E : Type 0} {cmp : E → E → Ordering} (o : IsTotalOrder cmp) where
  all_alike : (q x : E) (xs : List E) → cmp q x ≡ Equal → AllByRecursion (λ y. cmp x y ≡ Less) xs → AllByRecursion (λ y. cmp q y ≡ Less) xs
  all_alike q x [] e all = tt
  all_alike q x (y ∷ ys) e all = (o.congr q x y e ∙ all.0, all_alike q x ys e all.1)

  all_further : (q x : E) (xs : List E) → cmp q x ≡ Less → AllByRecursion (λ y. cmp x y ≡ Less) xs → AllByRecursion (λ y. cmp q y ≡ Less) xs
  all_further q x [] e all = tt
  all_further q x (y ∷ ys) e all = (o.trans q x y e all.0, all_further q x ys e all.1)

  all_inserted : (P : E → Type 0) (ks : List E) (k : E) → AllByRecursion P ks → P k → AllByRecursion P (insert_key cmp ks k)
  all_inserted P [] k all one = (one, tt)
  all_inserted P (x ∷ xs) k all one =
      elim (cmp k x) as (λ r. AllByRecursion P (match_ordering r (k ∷ x ∷ xs) (x ∷ xs) (x ∷ insert_key cmp xs k))) [
        | Less ↦ (one, all)
        | Equal ↦ all
        | Greater ↦ (all.0, all_inserted P xs k all.1 one)
      ]

  pub sorted_inserted : (ks : List E) (k : E) → IsStrictlySortedBy cmp ks → IsStrictlySortedBy cmp (insert_key cmp ks k)
  unfolding IsStrictlySortedBy
  sorted_inserted [] k up = (tt, tt)
  sorted_inserted (x ∷ xs) k up =
      elim (cmp k x) as (λ r. cmp k x ≡ r → IsStrictlySortedBy cmp (match_ordering r (k ∷ x ∷ xs) (x ∷ xs) (x ∷ insert_key cmp xs k))) [
        | Less ↦ λ e. ((e, all_further k x xs e up.0), up)
        | Equal ↦ λ _. up
        | Greater ↦ λ e. (all_inserted (λ y. cmp x y ≡ Less) xs k up.0 (o.antisymm x k ∙ ap ordering_reverse e), sorted_inserted xs k up.1)
      ] refl

  pub empty_sorted : IsStrictlySortedBy cmp []
  unfolding IsStrictlySortedBy
  empty_sorted = tt

  -- behind an element of the key there is none in a sorted list
  pub none_behind : (q x : E) (xs : List E) → IsStrictlySortedBy cmp (x ∷ xs) → cmp q x ≡ Equal → first_of cmp q xs ≡ None
  unfolding IsStrictlySortedBy
  none_behind q x xs up e = none_above cmp q xs (all_alike q x xs e up.0)

  pub none_before : (q x : E) (xs : List E) → IsStrictlySortedBy cmp (x ∷ xs) → cmp q x ≡ Less → first_of cmp q (x ∷ xs) ≡ None
  unfolding IsStrictlySortedBy
  none_before q x xs up e = none_above cmp q (x ∷ xs) (e, all_further q x xs e up.0)

  pub sorted_rest : (x : E) (xs : List E) → IsStrictlySortedBy cmp (x ∷ xs) → IsStrictlySortedBy cmp xs
  unfolding IsStrictlySortedBy
  sorted_rest x xs up = up.1

  tails : (q x y : E) (xs ys : List E) → x ≡ y → IsStrictlySortedBy cmp (x ∷ xs) → IsStrictlySortedBy cmp (y ∷ ys) → first_of cmp q (x ∷ xs) ≡ first_of cmp q (y ∷ ys)
      → first_of cmp q xs ≡ first_of cmp q ys
  tails q x y xs ys e up vp h =
      let over : cmp q x ≡ cmp q y = ap (cmp q) e in
      elim (is_eq (cmp q x)) as (λ b. is_eq (cmp q x) ≡ b → first_of cmp q xs ≡ first_of cmp q ys) [
        | true ↦ λ t. (let here = is_equal (cmp q x) t in none_behind q x xs up here ∙ sym (none_behind q y ys vp (sym over ∙ here)))
        | false ↦ λ f. sym (first_miss cmp q x xs f) ∙ h ∙ first_miss cmp q y ys (ap is_eq (sym over) ∙ f)
      ] refl

  -- sorted lists with the same element of each key
  pub same_lists : (xs ys : List E) → IsStrictlySortedBy cmp xs → IsStrictlySortedBy cmp ys → ((q : E) → first_of cmp q xs ≡ first_of cmp q ys) → xs ≡ ys
  same_lists [] [] up vp h = refl
  same_lists [] (y ∷ ys) up vp h =
      let here = first_hit cmp y y ys (tied_itself o y) in
      let both = h y ∙ here in
      cc
  same_lists (x ∷ xs) [] up vp h =
      let here = first_hit cmp x x xs (tied_itself o x) in
      let both = sym here ∙ h x in
      cc
  same_lists (x ∷ xs) (y ∷ ys) up vp h =
      let x_here = first_hit cmp x x xs (tied_itself o x) in
      let y_here = first_hit cmp y y ys (tied_itself o y) in
      elim (cmp x y) as (λ r. cmp x y ≡ r → x ∷ xs ≡ y ∷ ys) [
        | Less ↦ λ e. (let both = sym x_here ∙ h x ∙ none_before x y ys vp e in cc)
        | Equal ↦ λ e.
            (let both = sym x_here ∙ h x ∙ first_hit cmp x y ys e in
            let one : x ≡ y = cc in
            let rest = same_lists xs ys (sorted_rest x xs up) (sorted_rest y ys vp) (λ q. tails q x y xs ys one up vp (h q)) in
            cc)
        | Greater ↦ λ e.
            (let less : cmp y x ≡ Less = o.antisymm y x ∙ ap ordering_reverse e in
            let both = sym y_here ∙ sym (h y) ∙ none_before y x xs up less in
            cc)
      ] refl

  -- an inserted element is found besides those that were there
  pub first_inserted : (q : E) (ks : List E) (k : E) → IsStrictlySortedBy cmp ks → first_of cmp q (insert_key cmp ks k) ≡ option_or (first_of cmp q ks) (cond (is_eq (cmp q k)) (Some k) None)
  first_inserted q [] k up = refl
  first_inserted q (x ∷ xs) k up =
      let w = cond (is_eq (cmp q k)) (Some k) None in
      let old = first_of cmp q (x ∷ xs) in
      elim (cmp k x) as (λ r. cmp k x ≡ r → first_of cmp q (match_ordering r (k ∷ x ∷ xs) (x ∷ xs) (x ∷ insert_key cmp xs k)) ≡ option_or old w) [
        | Less ↦ λ e.
            elim (is_eq (cmp q k)) as (λ b. is_eq (cmp q k) ≡ b → cond b (Some k) old ≡ option_or old (cond b (Some k) None)) [
              | true ↦ λ t.
                  (let less : cmp q x ≡ Less = o.congr q k x (is_equal (cmp q k) t) ∙ e in
                  sym (ap (λ a. option_or a (Some k)) (none_before q x xs up less)))
              | false ↦ λ _. sym (or_none old)
            ] refl
        | Equal ↦ λ e.
            elim (is_eq (cmp q k)) as (λ b. is_eq (cmp q k) ≡ b → old ≡ option_or old (cond b (Some k) None)) [
              | true ↦ λ t.
                  (let there : old ≡ Some x = first_hit cmp q x xs (o.congr q k x (is_equal (cmp q k) t) ∙ e) in
                  there ∙ sym (ap (λ a. option_or a (Some k)) there))
              | false ↦ λ _. sym (or_none old)
            ] refl
        | Greater ↦ λ _.
            elim (is_eq (cmp q x)) as (λ b. cond b (Some x) (first_of cmp q (insert_key cmp xs k)) ≡ option_or (cond b (Some x) (first_of cmp q xs)) w) [
              | true ↦ refl
              | false ↦ first_inserted q xs k (sorted_rest x xs up)
            ]
      ] refl

  pub first_more : (q : E) (done keys : List E) → IsStrictlySortedBy cmp done → first_of cmp q (in_order cmp done keys) ≡ option_or (first_of cmp q done) (first_of cmp q keys)
  first_more q done [] up = sym (or_none (first_of cmp q done))
  first_more q done (k ∷ keys) up =
      let w = cond (is_eq (cmp q k)) (Some k) None in
      first_more q (insert_key cmp done k) keys (sorted_inserted done k up)
      ∙ ap (λ a. option_or a (first_of cmp q keys)) (first_inserted q done k up)
      ∙ or_assoc (first_of cmp q done) w (first_of cmp q keys)
      ∙ ap (option_or (first_of cmp q done)) (or_found (is_eq (cmp q k)) k (first_of cmp q keys))

  -- put in order, the first element of each key stays
  pub first_in_order : (q : E) (keys : List E) → first_of cmp q (in_order cmp [] keys) ≡ first_of cmp q keys
  first_in_order q keys = first_more q [] keys empty_sorted

  -- in a sorted list the first of a key is the last
  pub last_sorted : (q : E) (xs : List E) → IsStrictlySortedBy cmp xs → last_of cmp q xs ≡ first_of cmp q xs
  last_sorted q [] up = refl
  last_sorted q (x ∷ xs) up =
      elim (is_eq (cmp q x)) as (λ b. is_eq (cmp q x) ≡ b → option_or (last_of cmp q xs) (cond b (Some x) None) ≡ cond b (Some x) (first_of cmp q xs)) [
        | true ↦ λ t. ap (λ a. option_or a (Some x)) (last_sorted q xs (sorted_rest x xs up) ∙ none_behind q x xs up (is_equal (cmp q x) t))
        | false ↦ λ _. or_none (last_of cmp q xs) ∙ last_sorted q xs (sorted_rest x xs up)
      ] refl

  -- elements of one key find the same
  pub last_alike : (q k : E) (xs : List E) → cmp q k ≡ Equal → last_of cmp q xs ≡ last_of cmp k xs
  last_alike q k [] e = refl
  last_alike q k (x ∷ xs) e =
      ap (λ a. option_or a (cond (is_eq (cmp q x)) (Some x) None)) (last_alike q k xs e) ∙ ap (λ r. option_or (last_of cmp k xs) (cond (is_eq r) (Some x) None)) (o.congr q k x e)

  -- a filter of a sorted list keeps what it keeps of each key
  pub first_filter : (p : E → Bool) (q : E) (xs : List E) → IsStrictlySortedBy cmp xs → first_of cmp q (filter p xs) ≡ option_filter p (first_of cmp q xs)
  first_filter p q [] up = refl
  first_filter p q (x ∷ xs) up =
      let rest = first_filter p q xs (sorted_rest x xs up) in
      elim (is_eq (cmp q x)) as (λ b. is_eq (cmp q x) ≡ b → first_of cmp q (filter p (x ∷ xs)) ≡ option_filter p (cond b (Some x) (first_of cmp q xs))) [
        | true ↦ λ t.
            (let here = is_equal (cmp q x) t in
            elim (p x) as (λ b. first_of cmp q (cond b (x ∷ filter p xs) (filter p xs)) ≡ cond b (Some x) None) [
              | true ↦ first_hit cmp q x (filter p xs) here
              | false ↦ rest ∙ ap (option_filter p) (none_behind q x xs up here)
            ])
        | false ↦ λ f.
            elim (p x) as (λ b. first_of cmp q (cond b (x ∷ filter p xs) (filter p xs)) ≡ option_filter p (first_of cmp q xs)) [
              | true ↦ first_miss cmp q x (filter p xs) f ∙ rest
              | false ↦ rest
            ]
      ] refl
