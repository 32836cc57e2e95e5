-- Which ends stand between two cuts of a container.
use Rattle.std.proofs.Common.{◌≡◌, ◌∙◌, ℕ, ◌<◌, ◌==◌, Bool, true, false, not, ◌&&◌, ℤ, pos, ◌<ℤ◌, [], Option, Some, None, refl, sym, ap, arith, Ordering, eq-eqb}
use Rattle.std.specs.Prelude.{is_none, int_le}
use Rattle.std.specs.Str.{bytes_eq}
use Rattle.std.specs.Ordering.{is_eq, is_lt, is_le, nat_cmp, int_cmp, bool_cmp, ordering_then}
use Rattle.std.specs.declared.cmp.Ordering.TheVariants.{Less, Equal, Greater}
use Rattle.std.specs.declared.ops.Bound.TheVariants.{Included, Excluded}
use Rattle.std.specs.BTreeMap.Range.{range_contains}
use Rattle.std.proofs.lemmas.Int.{ints}
use Rattle.std.proofs.lemmas.Cmp.{int_ranked, tied_itself, nat_cmp_total}
use Rattle.std.specs.Cmp.{tied_then, nat_cmp_is}
use Rattle.std.proofs.lemmas.Bool.{eqb-true}
use Rattle.std.proofs.lemmas.Map.Lookups.{exact_unsigned}
use Rattle.std.proofs.lemmas.Map.Text.{is_eq-slice_cmp}
use Rattle.epochs.specs.Kinds.{Text}
use Rattle.epoch_rules.specs.Endings.{EndingParts, ending, ending_cmp, cut, last_key}
use Rattle.epoch_rules.specs.KeyOrder.{KeyParts, parts_cmp, text_cmp, or_zero}
use Rattle.epoch_rules.specs.Rules.{ends_by}
use Rattle.epoch_rules.proofs.Lookups.{is_equal}
use Rattle.epoch_rules.proofs.Members.{same_bool}
use Rattle.epoch_rules.proofs.Orders.{then_assoc}

-- ends, of which an absent one is after all
abbrev pub stop_cmp : Option ℤ → Option ℤ → Ordering
stop_cmp a b = ordering_then (bool_cmp (is_none a) (is_none b)) (int_cmp (or_zero a) (or_zero b))

lt_cmp : (a b : ℤ) → not (int_le b a) ≡ is_lt (int_cmp a b)
lt_cmp a b =
    elim (int_cmp a b) as (λ o. int_cmp a b ≡ o → not (int_le b a) ≡ is_lt o) [
      | Less ↦ λ h. (let lt : a <ℤ b = int_ranked a b Less (sym h) in grind (arith, ints))
      | Equal ↦ λ h. (let eq : a ≡ b = int_ranked a b Equal (sym h) in grind (arith, ints))
      | Greater ↦ λ h. (let gt : b <ℤ a = int_ranked a b Greater (sym h) in grind (arith, ints))
    ] refl

pub stop_less : (a b : Option ℤ) → not (ends_by b a) ≡ is_lt (stop_cmp a b)
stop_less None None = refl
stop_less None (Some y) = refl
stop_less (Some x) None = refl
stop_less (Some x) (Some y) = lt_cmp x y

abbrev codes_cmp : ℕ → (first second : Text) → EndingParts → Ordering
codes_cmp rank first second q = ordering_then (nat_cmp rank q.rank) (ordering_then (text_cmp first q.first) (text_cmp second q.second))

greater_than : (n : ℕ) → n < 255 → nat_cmp 255 n ≡ Greater
greater_than n h = sym (nat_cmp_is 255 n Greater h)

-- a cut compares by the container and the end, and stands behind all keys
cut_cmp : (rank : ℕ) (first second : Text) (stop end_there : Option ℤ) (r : ℕ) (f s : Text) (key : KeyParts) → key.rank < 255
    → ending_cmp (cut rank first second stop) (ending r f s end_there key) ≡ ordering_then (codes_cmp rank first second (ending r f s end_there key)) (ordering_then (stop_cmp stop end_there) Greater)
cut_cmp rank first second stop end_there r f s key small =
    let a = nat_cmp rank r in
    let b = text_cmp first f in
    let c = text_cmp second s in
    let d = bool_cmp (is_none stop) (is_none end_there) in
    let e = int_cmp (or_zero stop) (or_zero end_there) in
    let rest =
    ordering_then (text_cmp [] key.first)
    (ordering_then (text_cmp [] key.second) (ordering_then (text_cmp [] key.third) (ordering_then (text_cmp [] key.fourth) (ordering_then (text_cmp [] key.fifth) (int_cmp (pos 0) key.start))))) in
    let last : parts_cmp last_key key ≡ Greater = ap (λ o. ordering_then o rest) (greater_than key.rank small) in
    ap (λ o. ordering_then a (ordering_then b (ordering_then c (ordering_then d (ordering_then e o))))) last
    ∙ ap (λ o. ordering_then a (ordering_then b (ordering_then c o))) (sym (then_assoc d e Greater))
    ∙ ap (ordering_then a) (sym (then_assoc b c (ordering_then (ordering_then d e) Greater)))
    ∙ sym (then_assoc a (ordering_then b c) (ordering_then (ordering_then d e) Greater))

within : (c low high : Ordering) → (is_le (ordering_then c (ordering_then low Greater)) && not (is_le (ordering_then c (ordering_then high Greater)))) ≡ (is_eq c && (is_lt low && not (is_lt high)))
within Less low high = refl
within Greater low high = refl
within Equal Less Less = refl
within Equal Less Equal = refl
within Equal Less Greater = refl
within Equal Equal high = refl
within Equal Greater high = refl

is_codes : (rank : ℕ) (first second : Text) (q : EndingParts) → is_eq (codes_cmp rank first second q) ≡ (rank == q.rank && (bytes_eq first q.first && bytes_eq second q.second))
is_codes rank first second q =
    sym (tied_then (nat_cmp rank q.rank) (ordering_then (text_cmp first q.first) (text_cmp second q.second)))
    ∙ (λ i. is_eq_nat rank q.rank i && sym (tied_then (text_cmp first q.first) (text_cmp second q.second)) i)
    ∙ (λ i. rank == q.rank && (is_eq-slice_cmp first q.first i && is_eq-slice_cmp second q.second i))
  where
    is_eq_nat : (a b : ℕ) → is_eq (nat_cmp a b) ≡ (a == b)
    is_eq_nat a b =
        same_bool (is_eq (nat_cmp a b)) (a == b) (λ h. eq-eqb a b (exact_unsigned a b (is_equal (nat_cmp a b) h)))
        (λ h. ap is_eq (ap (nat_cmp a) (sym (eqb-true a b h)) ∙ tied_itself nat_cmp_total a))

-- between two cuts of a container stand those of its ends that are after the one and not after the other
pub between_cuts : (rank : ℕ) (first second : Text) (low high end_there : Option ℤ) (r : ℕ) (f s : Text) (key : KeyParts) → key.rank < 255
    → range_contains ending_cmp (Included (cut rank first second low)) (Excluded (cut rank first second high)) (ending r f s end_there key)
    ≡ ((rank == r && (bytes_eq first f && bytes_eq second s)) && (not (ends_by end_there low) && ends_by end_there high))
between_cuts rank first second low high end_there r f s key small =
    let q = ending r f s end_there key in
    (λ i. is_le (cut_cmp rank first second low end_there r f s key small i) && not (is_le (cut_cmp rank first second high end_there r f s key small i)))
    ∙ within (codes_cmp rank first second q) (stop_cmp low end_there) (stop_cmp high end_there)
    ∙ (λ i. is_codes rank first second q i && (sym (stop_less low end_there) i && not (sym (stop_less high end_there) i)))
    ∙ ap (λ b. (rank == r && (bytes_eq first f && bytes_eq second s)) && (not (ends_by end_there low) && b)) (not_not (ends_by end_there high))
  where
    not_not : (b : Bool) → not (not b) ≡ b
    not_not true = refl
    not_not false = refl
