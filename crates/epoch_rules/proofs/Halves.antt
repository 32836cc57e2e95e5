-- Lines in the order of their keys, cut in two at a key.
use Rattle.std.proofs.Common.{◌≡◌, ◌∙◌, ℕ, zero, suc, ◌<◌, ◌≤◌, Bool, true, false, not, cond, List, [], ◌∷◌, ◌++◌, filter, length, map, take, drop, slice_index_or, refl, sym, ap, arith, Ordering}
use Rattle.std.specs.Bool.{⊤}
use Rattle.std.specs.List.{AllByRecursion}
use Rattle.std.specs.List.Sorted.{IsPartitionedBy, IsPartitionPoint, IsStrictlySortedBy}
use Rattle.std.specs.Ordering.{is_lt, is_le, is_gt, is_ge, ordering_reverse}
use Rattle.std.specs.declared.cmp.Ordering.TheVariants.{Less, Equal, Greater}
use Rattle.std.proofs.lemmas.List.{append-nil}
use Rattle.epochs.specs.Views.{values_of_line}
use Rattle.epochs.specs.declared.line.Line.{Line}
use Rattle.epoch_rules.specs.KeyOrder.{KeyParts, key_parts_of, line_cmp, parts_cmp}
use Rattle.epoch_rules.specs.Neighbours.{is_above_key, is_below_key, is_from_key, is_up_to_key}
use Rattle.epoch_rules.proofs.Cuts.{all_back, all_front, all_mapped, all_two, filter_joined, filter_mapped, filter_none, filter_whole, halves}
use Rattle.epoch_rules.proofs.Orders.{parts_total}

abbrev pub Rises : {X : Type 0} → (X → X → Type 0) → List X → Type 0
Rises R [] = ⊤
Rises R (x ∷ xs) = AllByRecursion (R x) xs × Rises R xs

one_of : {X : Type 0} (P : X → Type 0) (xs : List X) → AllByRecursion P xs → (j : ℕ) (d : X) → j < length xs → P (slice_index_or xs j d)
one_of P [] all j d lt = absurd (omega (arith, lt))
one_of P (x ∷ xs) all zero d lt = all.0
one_of P (x ∷ xs) all (suc j) d lt = one_of P xs all.1 j d (omega (arith, lt))

-- a test that goes back along the order cuts each list in order in two
pub parted : {X : Type 0} (R : X → X → Type 0) (p : X → Bool) → ((x y : X) → R x y → p y ≡ true → p x ≡ true) → (xs : List X) → Rises R xs → IsPartitionedBy p xs
parted R p step [] h i j d le lt k = absurd (omega (arith, lt))
parted R p step (x ∷ xs) h zero zero d le lt k = k
parted R p step (x ∷ xs) h zero (suc j) d le lt k = step x (slice_index_or xs j d) (one_of (R x) xs h.0 j d (omega (arith, lt))) k
parted R p step (x ∷ xs) h (suc i) zero d le lt k = absurd (omega (arith, le))
parted R p step (x ∷ xs) h (suc i) (suc j) d le lt k = parted R p step xs h.1 i j d (omega (arith, le)) (omega (arith, lt)) k

pub rises_mapped : (lines : List Line) → IsStrictlySortedBy line_cmp (map values_of_line lines) → Rises (λ x y. line_cmp (values_of_line x) (values_of_line y) ≡ Less) lines
unfolding IsStrictlySortedBy
rises_mapped [] h = tt
rises_mapped (x ∷ xs) h = (all_mapped (λ e. line_cmp (values_of_line x) e ≡ Less) values_of_line xs h.0, rises_mapped xs h.1)

-- a list in two at a place before which a test passes, and from which it fails
pub cut_at : {X : Type 0} (p q : X → Bool) → ((x : X) → not (p x) ≡ q x) → (xs : List X) (n : ℕ) → n ≤ length xs → IsPartitionPoint (λ x. p x ≡ true) (λ x. p x ≡ false) xs n
    → (take n xs ≡ filter p xs) × (drop n xs ≡ filter q xs)
cut_at {X} p q other xs n fits at =
    let front : AllByRecursion (λ x. p x ≡ true) (take n xs) = all_front _ xs n at.0 fits in
    let back : AllByRecursion (λ x. p x ≡ false) (drop n xs) = all_back _ xs n at.1 in
    let out : AllByRecursion (λ x. q x ≡ false) (take n xs) = all_two (λ x. p x ≡ true) (λ x. p x ≡ true) (λ x. q x ≡ false) (λ x a b. sym (other x) ∙ ap not a) (take n xs) front front in
    let stays : AllByRecursion (λ x. q x ≡ true) (drop n xs) = all_two (λ x. p x ≡ false) (λ x. p x ≡ false) (λ x. q x ≡ true) (λ x a b. sym (other x) ∙ ap not a) (drop n xs) back back in
    let joined : (t : X → Bool) → filter t xs ≡ filter t (take n xs) ++ filter t (drop n xs) = λ t. ap (filter t) (sym (halves n xs)) ∙ filter_joined t (take n xs) (drop n xs) in (
      sym (joined p ∙ (λ i. filter_whole p (take n xs) front i ++ filter_none p (drop n xs) back i) ∙ append-nil (take n xs)),
      sym (joined q ∙ (λ i. filter_none q (take n xs) out i ++ filter_whole q (drop n xs) stays i)),
    )

pub same_filter : {X : Type 0} (p q : X → Bool) → ((x : X) → p x ≡ q x) → (xs : List X) → filter p xs ≡ filter q xs
same_filter p q same [] = refl
same_filter p q same (x ∷ xs) = (λ i. cond (same x i) (x ∷ same_filter p q same xs i) (same_filter p q same xs i))

-- where a line's key stands to a key
abbrev pub place_of : KeyParts → Line → Ordering
place_of k l = parts_cmp k (key_parts_of (values_of_line l))

abbrev pub is_behind : KeyParts → Line → Bool
is_behind k l = is_gt (place_of k l)

abbrev pub is_not_before : KeyParts → Line → Bool
is_not_before k l = is_ge (place_of k l)

behind : (k y x : KeyParts) → is_ge (parts_cmp k y) ≡ true → parts_cmp x y ≡ Less → parts_cmp k x ≡ Greater
behind k y x h up =
    elim (parts_cmp k y) as (λ o. parts_cmp k y ≡ o → is_ge o ≡ true → parts_cmp k x ≡ Greater) [
      | Less ↦ λ _ h. (cc)
      | Equal ↦ λ e _. parts_total.congr k y x e ∙ parts_total.antisymm y x ∙ ap ordering_reverse up
      | Greater ↦ λ e _.
          (let less : parts_cmp y k ≡ Less = parts_total.antisymm y k ∙ ap ordering_reverse e in
          parts_total.antisymm k x ∙ ap ordering_reverse (parts_total.trans x y k up less))
    ] refl h

gt_ge : (o : Ordering) → is_gt o ≡ true → is_ge o ≡ true
gt_ge Less h = cc
gt_ge Equal h = cc
gt_ge Greater h = refl

pub parted_behind : (k : KeyParts) (lines : List Line) → IsStrictlySortedBy line_cmp (map values_of_line lines) → IsPartitionedBy (is_behind k) lines
parted_behind k lines up =
    parted (λ x y. line_cmp (values_of_line x) (values_of_line y) ≡ Less) (is_behind k)
    (λ x y less h. ap is_gt (behind k (key_parts_of (values_of_line y)) (key_parts_of (values_of_line x)) (gt_ge (place_of k y) h) less)) lines (rises_mapped lines up)

pub parted_not_before : (k : KeyParts) (lines : List Line) → IsStrictlySortedBy line_cmp (map values_of_line lines) → IsPartitionedBy (is_not_before k) lines
parted_not_before k lines up =
    parted (λ x y. line_cmp (values_of_line x) (values_of_line y) ≡ Less) (is_not_before k)
    (λ x y less h. ap is_ge (behind k (key_parts_of (values_of_line y)) (key_parts_of (values_of_line x)) h less)) lines (rises_mapped lines up)

pub not_gt : (o : Ordering) → is_gt o ≡ not (is_le o)
not_gt Less = refl
not_gt Equal = refl
not_gt Greater = refl

pub not_not_gt : (o : Ordering) → not (is_gt o) ≡ is_le o
not_not_gt Less = refl
not_not_gt Equal = refl
not_not_gt Greater = refl

pub not_lt : (o : Ordering) → is_ge o ≡ not (is_lt o)
not_lt Less = refl
not_lt Equal = refl
not_lt Greater = refl

pub not_not_lt : (o : Ordering) → not (is_ge o) ≡ is_lt o
not_not_lt Less = refl
not_not_lt Equal = refl
not_not_lt Greater = refl

-- the lines before a key and those from it on, and those up to a key and those behind it
pub below_cut : (k : KeyParts) (lines : List Line) (n : ℕ) → n ≤ length lines → IsPartitionPoint (λ x. is_behind k x ≡ true) (λ x. is_behind k x ≡ false) lines n
    → (map values_of_line (take n lines) ≡ filter (is_below_key k) (map values_of_line lines)) × (map values_of_line (drop n lines) ≡ filter (is_from_key k) (map values_of_line lines))
below_cut k lines n fits at =
    let parts = cut_at (is_behind k) (λ l. is_le (place_of k l)) (λ l. not_not_gt (place_of k l)) lines n fits at in (
      ap (map values_of_line) parts.0
          ∙ ap (map values_of_line) (same_filter (is_behind k) (λ l. is_below_key k (values_of_line l)) (λ l. not_gt (place_of k l)) lines)
          ∙ filter_mapped values_of_line (is_below_key k) lines,
      ap (map values_of_line) parts.1 ∙ filter_mapped values_of_line (is_from_key k) lines,
    )

pub up_to_cut : (k : KeyParts) (lines : List Line) (n : ℕ) → n ≤ length lines → IsPartitionPoint (λ x. is_not_before k x ≡ true) (λ x. is_not_before k x ≡ false) lines n
    → (map values_of_line (take n lines) ≡ filter (is_up_to_key k) (map values_of_line lines)) × (map values_of_line (drop n lines) ≡ filter (is_above_key k) (map values_of_line lines))
up_to_cut k lines n fits at =
    let parts = cut_at (is_not_before k) (λ l. is_lt (place_of k l)) (λ l. not_not_lt (place_of k l)) lines n fits at in (
      ap (map values_of_line) parts.0
          ∙ ap (map values_of_line) (same_filter (is_not_before k) (λ l. is_up_to_key k (values_of_line l)) (λ l. not_lt (place_of k l)) lines)
          ∙ filter_mapped values_of_line (is_up_to_key k) lines,
      ap (map values_of_line) parts.1 ∙ filter_mapped values_of_line (is_above_key k) lines,
    )
