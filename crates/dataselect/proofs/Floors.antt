-- The floor of the greater of two times is the greater floor.
use Rattle.std.proofs.Common.{◌≡◌, ℕ, zero, suc, ◌-◌, ◌*◌, ◌<◌, ◌==◌, ℤ, pos, negsuc, ◌+ℤ◌, ◌-ℤ◌, ◌*ℤ◌, ◌≤ℤ◌, ◌<ℤ◌, true, false, refl, sym, ap, ◌∙◌, arith, cond, subst, Ordering, nat_cmp, true≢false}
use Rattle.std.specs.Prelude.{int_le, neg_ℤ, unsigned_abs}
use Rattle.std.specs.Int.{int_max}
use Rattle.std.specs.Ordering.{int_cmp, is_ge, ordering_then, match_ordering, MatchOrdering}
use Rattle.std.specs.declared.cmp.Ordering.TheVariants.{Less, Equal, Greater}
use Rattle.std.proofs.lemmas.Cmp.{int_ranked}
use Rattle.std.proofs.lemmas.Int.{ints, by_lt_z}
use Rattle.std.proofs.Math.Nat.{mul_right_comm}
use Rattle.list_laws.specs.Greater.{greater}
use Rattle.exact_time.specs.SampleTime.{sample_parts, floor_at}
use Rattle.exact_time.proofs.Wholes.{times_more, some_parts, floor_decides}
use Rattle.mseed_header.specs.declared.header.Header.{Header}
use Rattle.dataselect.specs.MergedSpans.{SampleAt, micros_at, at_cmp, last_at}

-- products with a divisor
apart : (x y : ℤ) → x ≤ℤ y → x +ℤ pos (unsigned_abs (y -ℤ x)) ≡ y
apart x y h = omega (arith, ints)

not_less : (a : ℤ) (n : ℕ) → a ≤ℤ (a +ℤ pos n)
not_less a n = omega (arith, ints)

pub times_keep : (x y : ℤ) (p : ℕ) → x ≤ℤ y → (x *ℤ pos p) ≤ℤ (y *ℤ pos p)
times_keep x y p h =
    let d = unsigned_abs (y -ℤ x) in
    subst (λ (z : ℤ). (x *ℤ pos p) ≤ℤ z) (sym (times_more x d p) ∙ ap (λ (z : ℤ). z *ℤ pos p) (apart x y h)) (not_less (x *ℤ pos p) (d * p))

one_more : (x y : ℤ) → y <ℤ x → (y +ℤ pos 1) ≤ℤ x
one_more x y h = omega (arith, ints)

too_far : (a b : ℤ) (n : ℕ) → 0 < n → (b +ℤ pos n) ≤ℤ a → a ≤ℤ b → ⊥
too_far a b n some h k = omega (arith, ints)

pub times_cancel : (x y : ℤ) (p : ℕ) → 0 < p → (x *ℤ pos p) ≤ℤ (y *ℤ pos p) → x ≤ℤ y
times_cancel x y p some h =
    by_lt_z y x
    (λ lt.
    let step : ((y *ℤ pos p) +ℤ pos (1 * p)) ≤ℤ (x *ℤ pos p) = subst (λ (z : ℤ). z ≤ℤ (x *ℤ pos p)) (times_more y 1 p) (times_keep (y +ℤ pos 1) x p (one_more x y lt)) in
    let one : 0 < 1 * p = omega arith in
    absurd (too_far (x *ℤ pos p) (y *ℤ pos p) (1 * p) one step h))
    (λ le. le)

neg_times : (n q : ℕ) → neg_ℤ (pos n) *ℤ pos q ≡ neg_ℤ (pos (n * q))
neg_times zero q = let e : 0 * q ≡ 0 = omega arith in (λ i. pos (e i)) ∙ sym (λ i. neg_ℤ (pos (e i)))
neg_times (suc n) q = refl

turned : (x : ℤ) (p q : ℕ) → (x *ℤ pos p) *ℤ pos q ≡ (x *ℤ pos q) *ℤ pos p
turned (pos n) p q = ap pos (mul_right_comm n p q)
turned (negsuc n) p q = neg_times (suc n * p) q ∙ ap (λ (k : ℕ). neg_ℤ (pos k)) (mul_right_comm (suc n) p q) ∙ sym (neg_times (suc n * q) p)

chained : (a b c : ℤ) → a ≤ℤ b → b ≤ℤ c → a ≤ℤ c
chained a b c h k = omega (arith, ints)

-- a time has no samples ahead where it has no rate
abbrev pub IsStill : SampleAt → Type 0
IsStill t = t.rate.num ≡ 0 → t.k ≡ 0

abbrev pub floor_of : SampleAt → ℤ
floor_of t = floor_at t.start t.k t.rate

itself : (a : ℤ) → int_le a a ≡ true
itself a = grind (arith, ints)

at_most : (a b : ℤ) → int_le a b ≡ true → a ≤ℤ b
at_most a b h = grind (arith, ints)

reached : (a b : ℤ) → is_ge (int_cmp a b) ≡ true → b ≤ℤ a
reached a b h =
    elim (int_cmp a b) as (λ o. MatchOrdering o (a <ℤ b) (a ≡ b) (b <ℤ a) → is_ge o ≡ true → b ≤ℤ a) [
      | Less ↦ λ _ k. absurd (true≢false (sym k))
      | Equal ↦ λ e _. omega (arith, ints, e)
      | Greater ↦ λ m _. omega (arith, ints, m)
    ] (int_ranked a b (int_cmp a b) refl) h

reaches : (a b : ℤ) → b ≤ℤ a → is_ge (int_cmp a b) ≡ true
reaches a b h =
    elim (int_cmp a b) as (λ o. MatchOrdering o (a <ℤ b) (a ≡ b) (b <ℤ a) → is_ge o ≡ true) [
      | Less ↦ λ m. absurd (omega (arith, ints, m, h))
      | Equal ↦ λ _. refl
      | Greater ↦ λ _. refl
    ] (int_ranked a b (int_cmp a b) refl)

-- the floors of times stand as the times do
pub floors_rise : (a b : SampleAt) → IsStill a → IsStill b → (micros_at a *ℤ pos (sample_parts b.rate)) ≤ℤ (micros_at b *ℤ pos (sample_parts a.rate)) → floor_of a ≤ℤ floor_of b
floors_rise a b sa sb h =
    let f = floor_of a in
    let p = sample_parts a.rate in
    let q = sample_parts b.rate in
    let own : (f *ℤ pos p) ≤ℤ micros_at a = reached (micros_at a) (f *ℤ pos p) (sym (floor_decides a.start a.k a.rate f sa) ∙ itself f) in
    let crossed : ((f *ℤ pos q) *ℤ pos p) ≤ℤ (micros_at b *ℤ pos p) =
    chained ((f *ℤ pos q) *ℤ pos p) (micros_at a *ℤ pos q) (micros_at b *ℤ pos p)
    (subst (λ (z : ℤ). z ≤ℤ (micros_at a *ℤ pos q)) (turned f p q) (times_keep (f *ℤ pos p) (micros_at a) q own)) h in
    at_most f (floor_of b) (floor_decides b.start b.k b.rate f sb ∙ reaches (micros_at b) (f *ℤ pos q) (times_cancel (f *ℤ pos q) (micros_at b) p (some_parts a.rate) crossed))

not_above : (x y : ℤ) (k : Ordering) → ordering_then (int_cmp x y) k ≡ Less → x ≤ℤ y
not_above x y k h =
    elim (int_cmp x y) as (λ o. MatchOrdering o (x <ℤ y) (x ≡ y) (y <ℤ x) → ordering_then o k ≡ Less → x ≤ℤ y) [
      | Less ↦ λ m _. omega (arith, ints, m)
      | Equal ↦ λ e _. omega (arith, ints, e)
      | Greater ↦ λ _ e. absurd (cc)
    ] (int_ranked x y (int_cmp x y) refl) h

not_below : (x y : ℤ) (k o : Ordering) → ordering_then (int_cmp x y) k ≡ o → (o ≡ Less → ⊥) → y ≤ℤ x
not_below x y k o h n =
    elim (int_cmp x y) as (λ r. MatchOrdering r (x <ℤ y) (x ≡ y) (y <ℤ x) → ordering_then r k ≡ o → y ≤ℤ x) [
      | Less ↦ λ _ e. absurd (n (sym e))
      | Equal ↦ λ e _. omega (arith, ints, e)
      | Greater ↦ λ m _. omega (arith, ints, m)
    ] (int_ranked x y (int_cmp x y) refl) h

upper : (a b : ℤ) → a ≤ℤ b → b ≡ int_max a b
upper a b h = grind (arith, ints)

lower : (a b : ℤ) → b ≤ℤ a → a ≡ int_max a b
lower a b h = grind (arith, ints)

pub greatest_floor : (a b : SampleAt) → IsStill a → IsStill b → floor_of (greater at_cmp a b) ≡ int_max (floor_of a) (floor_of b)
greatest_floor a b sa sb =
    let x = micros_at a *ℤ pos (sample_parts b.rate) in
    let y = micros_at b *ℤ pos (sample_parts a.rate) in
    elim (at_cmp a b) as (λ o. at_cmp a b ≡ o → floor_of (match_ordering o b a a) ≡ int_max (floor_of a) (floor_of b)) [
      | Less ↦ λ e. upper (floor_of a) (floor_of b) (floors_rise a b sa sb (not_above x y (nat_cmp a.k b.k) e))
      | Equal ↦ λ e. lower (floor_of a) (floor_of b) (floors_rise b a sb sa (not_below x y (nat_cmp a.k b.k) Equal e (λ h. cc)))
      | Greater ↦ λ e. lower (floor_of a) (floor_of b) (floors_rise b a sb sa (not_below x y (nat_cmp a.k b.k) Greater e (λ h. cc)))
    ] refl

pub still_greater : (a b : SampleAt) → IsStill a → IsStill b → IsStill (greater at_cmp a b)
still_greater a b sa sb =
    elim (at_cmp a b) as (λ o. IsStill (match_ordering o b a a)) [
      | Less ↦ sb
      | Equal ↦ sa
      | Greater ↦ sa
    ]

pub last_still : (h : Header) → IsStill (last_at h)
last_still h none = elim (h.rate.num == 0) as (λ b. h.rate.num == 0 ≡ b → cond b 0 (h.samples - 1) ≡ 0) [
  | true ↦ λ _. refl
  | false ↦ λ e. absurd (let same : h.rate.num == 0 ≡ true = ap (λ n. n == 0) none in let no : true ≡ false = sym same ∙ e in true≢false no)
] refl
