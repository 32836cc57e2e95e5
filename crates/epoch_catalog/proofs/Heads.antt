-- The last new lines of their keys: the set of keys, that the lines' keys differ, and the same lines in the
-- order of keys.
use Rattle.std.proofs.Common.{◌≡◌, ℕ, zero, suc, ◌+◌, ◌<◌, Bool, true, false, cond, ◌||◌, List, [], ◌∷◌, filter, map, reverse, length, get_or, Option, Some, None, refl, sym, ap, subst, ◌∙◌, arith, Ordering}
use Rattle.std.specs.Option.{is_some}
use Rattle.std.specs.List.{list_any, AllByRecursion, IsDistinct}
use Rattle.std.specs.List.Sorted.{IsPermutation, IsSortedBy, IsStrictlySortedBy}
use Rattle.std.specs.Ordering.{is_eq, is_lt, eq_by_cmp, ordering_reverse}
use Rattle.std.specs.declared.cmp.Ordering.TheVariants.{Less, Equal, Greater}
use Rattle.std.proofs.lemmas.List.Sorted.{Contains-permutation, IsPermutation-reverse, IsPermutation-trans, list_any-IsPermutation}
use Rattle.std.proofs.lemmas.Map.Entries.{option_filter}
use Rattle.std.proofs.lemmas.Map.Keys.{IsDistinct-IsPermutation}
use Rattle.epochs.specs.Lines.{LineValues}
use Rattle.epoch_rules.specs.KeyOrder.{line_cmp, have_one_key}
use Rattle.epoch_rules.specs.LiveLines.{is_replaced, last_lines}
use Rattle.epoch_rules.proofs.KeptCatalog.{eq_turned}
use Rattle.epoch_rules.proofs.LiveByKey.{first_last, none_there}
use Rattle.epoch_rules.proofs.Lookups.{any_first, first_of, is_equal, last_of, last_sorted}
use Rattle.epoch_rules.proofs.Orders.{lines_total}
use Rattle.epoch_catalog.proofs.LiveMembers.{contains_found, found_contained}
use Rattle.std.proofs.lemmas.Bool.{or_parts}

pub none_at : {X : Type 0} (p : X → Bool) (xs : List X) → ((k : ℕ) (d : X) → k < length xs → p (get_or xs k d) ≡ false) → list_any p xs ≡ false
none_at p [] h = refl
none_at p (x ∷ xs) h = ap (λ b. b || list_any p xs) (h zero x (omega arith)) ∙ none_at p xs (λ k d lt. h (suc k) d (omega arith))

pub any_mapped : {X : Type 0} (f : X → LineValues) (p : LineValues → Bool) (xs : List X) → list_any p (map f xs) ≡ list_any (λ x. p (f x)) xs
any_mapped f p [] = refl
any_mapped f p (x ∷ xs) = ap (λ b. p (f x) || b) (any_mapped f p xs)

filter_true : (xs : List LineValues) → filter (λ x. true) xs ≡ xs
filter_true [] = refl
filter_true (x ∷ xs) = ap (λ ys. x ∷ ys) (filter_true xs)

option_true : (a : Option LineValues) → option_filter (λ x. true) a ≡ a
option_true None = refl
option_true (Some x) = refl

none_among : (p : LineValues → Bool) (q : LineValues) (xs : List LineValues) → list_any (have_one_key q) xs ≡ false → AllByRecursion (λ y. have_one_key q y ≡ false) (filter p (last_lines xs))
none_among p q [] none = tt
none_among p q (x ∷ xs) none =
    let parts = or_parts (have_one_key q x) (list_any (have_one_key q) xs) none in
    let rest = none_among p q xs parts.1 in
    let lasts = last_lines xs in
    elim (is_replaced xs x) as (λ b. AllByRecursion (λ y. have_one_key q y ≡ false) (filter p (cond b lasts (x ∷ lasts)))) [
      | true ↦ rest
      | false ↦
          elim (p x) as (λ b. AllByRecursion (λ y. have_one_key q y ≡ false) (cond b (x ∷ filter p lasts) (filter p lasts))) [
            | true ↦ (parts.0, rest)
            | false ↦ rest
          ]
    ]

-- the last lines have different keys
pub lasts_distinct : (p : LineValues → Bool) (xs : List LineValues) → IsDistinct (eq_by_cmp line_cmp) (filter p (last_lines xs))
unfolding IsDistinct
lasts_distinct p [] = tt
lasts_distinct p (x ∷ xs) =
    let rest = lasts_distinct p xs in
    let lasts = last_lines xs in
    elim (is_replaced xs x) as (λ b. is_replaced xs x ≡ b → IsDistinct (eq_by_cmp line_cmp) (filter p (cond b lasts (x ∷ lasts)))) [
      | true ↦ λ _. rest
      | false ↦ λ none.
          elim (p x) as (λ b. IsDistinct (eq_by_cmp line_cmp) (cond b (x ∷ filter p lasts) (filter p lasts))) [
            | true ↦ (none_among p x xs none, rest)
            | false ↦ rest
          ]
    ] refl

pub heads_distinct : (lines heads : List LineValues) → heads ≡ reverse (last_lines lines) → IsDistinct (eq_by_cmp line_cmp) heads
heads_distinct lines heads is =
    let lasts = last_lines lines in
    let apart = subst (λ ls. IsDistinct (eq_by_cmp line_cmp) ls) (filter_true lasts) (lasts_distinct (λ x. true) lines) in
    subst (λ ls. IsDistinct (eq_by_cmp line_cmp) ls) (sym is) (IsDistinct-IsPermutation (eq_by_cmp line_cmp) (eq_turned lines_total) lasts (reverse lasts) (IsPermutation-reverse lasts) apart)

less_from : (o : Ordering) → is_lt (ordering_reverse o) ≡ false → is_eq o ≡ false → o ≡ Less
less_from Less h k = refl
less_from Equal h k = (cc)
less_from Greater h k = (cc)

all_further : (x y : LineValues) (ys : List LineValues) → line_cmp x y ≡ Less → AllByRecursion (λ z. line_cmp y z ≡ Less) ys → AllByRecursion (λ z. line_cmp x z ≡ Less) ys
all_further x y [] h all = tt
all_further x y (z ∷ ys) h all = (lines_total.trans x y z h all.0, all_further x y ys h all.1)

pub one_more : (k : ℕ) → suc k + 1 ≡ suc (k + 1)
one_more k = omega arith

-- a sorted list of different keys is strictly sorted
pub strictly : {X : Type 0} (f : X → LineValues) (xs : List X) → IsSortedBy (λ x y. is_lt (line_cmp (f x) (f y))) xs → IsDistinct (eq_by_cmp line_cmp) (map f xs) → IsStrictlySortedBy line_cmp (map f xs)
unfolding IsStrictlySortedBy IsDistinct
strictly f [] sorted apart = tt
strictly f (x ∷ []) sorted apart = (tt, tt)
strictly {X} f (x ∷ y ∷ xs) sorted apart =
    let up : IsSortedBy (λ x y. is_lt (line_cmp (f x) (f y))) (y ∷ xs) = λ k d low high. subst (λ n. is_lt (line_cmp (f (get_or (x ∷ y ∷ xs) n d)) (f (get_or (y ∷ xs) k d))) ≡ false) (one_more k) (sorted (suc k) d (omega arith) (omega arith)) in
    let rest = strictly f (y ∷ xs) up apart.1 in
    let back : is_lt (line_cmp (f y) (f x)) ≡ false = sorted zero x (omega arith) (omega arith) in
    let turned : is_lt (ordering_reverse (line_cmp (f x) (f y))) ≡ false = ap is_lt (sym (lines_total.antisymm (f y) (f x))) ∙ back in
    let less : line_cmp (f x) (f y) ≡ Less = less_from (line_cmp (f x) (f y)) turned apart.0.0 in
    ((less, all_further (f x) (f y) (map f xs) less rest.0), rest)

pub first_alike : (q k : LineValues) (xs : List LineValues) → line_cmp q k ≡ Equal → first_of line_cmp q xs ≡ first_of line_cmp k xs
first_alike q k [] e = refl
first_alike q k (x ∷ xs) e =
    ap (λ a. cond (is_eq (line_cmp q x)) (Some x) a) (first_alike q k xs e) ∙ ap (λ r. cond (is_eq r) (Some x) (first_of line_cmp k xs)) (lines_total.congr q k x e)

pub found_alike : (q x : LineValues) (xs : List LineValues) → first_of line_cmp q xs ≡ Some x → line_cmp q x ≡ Equal
found_alike q x [] h = (cc)
found_alike q x (y ∷ ys) h =
    elim (is_eq (line_cmp q y)) as (λ b. is_eq (line_cmp q y) ≡ b → cond b (Some y) (first_of line_cmp q ys) ≡ Some x → line_cmp q x ≡ Equal) [
      | true ↦ λ t k. (let one : y ≡ x = cc in ap (line_cmp q) (sym one) ∙ is_equal (line_cmp q y) t)
      | false ↦ λ _ k. found_alike q x ys k
    ] refl h

moved : (q : LineValues) (xs ys : List LineValues) → IsPermutation xs ys → IsStrictlySortedBy line_cmp ys → (a : Option LineValues) → first_of line_cmp q xs ≡ a → first_of line_cmp q ys ≡ a
moved q xs ys same up (Some x) is =
    let there = Contains-permutation xs ys x same (contains_found q x xs is) in
    first_alike q x ys (found_alike q x xs is) ∙ found_contained x ys up there
moved q xs ys same up None is =
    let none = sym (any_first line_cmp q ys) ∙ sym (list_any-IsPermutation (have_one_key q) xs ys same) ∙ any_first line_cmp q xs ∙ ap is_some is in
    none_there (first_of line_cmp q ys) none

-- of each key the heads, put in order, have the last line
pub heads_last : (q : LineValues) (lines heads : List LineValues) → IsPermutation (reverse (last_lines lines)) heads → IsStrictlySortedBy line_cmp heads → last_of line_cmp q heads ≡ last_of line_cmp q lines
heads_last q lines heads same up =
    let lasts = last_lines lines in
    let all = IsPermutation-trans lasts (reverse lasts) heads (IsPermutation-reverse lasts) same in
    last_sorted lines_total q heads up
    ∙ moved q lasts heads all up (first_of line_cmp q lasts) refl
    ∙ ap (first_of line_cmp q) (sym (filter_true lasts))
    ∙ first_last (λ x. true) q lines
    ∙ option_true (last_of line_cmp q lines)
