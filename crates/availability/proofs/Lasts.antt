-- The last sample of a record, rounded down to a microsecond, lies before 2701.
use Rattle.std.proofs.Common.{◌≡◌, ℕ, ◌*◌, ◌-◌, ◌<◌, ◌≤◌, ◌==◌, ℤ, pos, ◌+ℤ◌, ◌*ℤ◌, ◌<ℤ◌, ◌≤ℤ◌, true, false, refl, sym, ap, ◌∙◌, arith, cond}
use Rattle.std.specs.Prelude.{int_le}
use Rattle.std.specs.Ordering.{int_cmp, is_ge, MatchOrdering}
use Rattle.std.specs.declared.cmp.Ordering.TheVariants.{Less, Equal, Greater}
use Rattle.std.proofs.lemmas.Bool.{true≢false}
use Rattle.std.proofs.lemmas.Bool.Decides.{nat_tests}
use Rattle.std.proofs.lemmas.Cmp.{int_ranked}
use Rattle.std.proofs.lemmas.Int.{ints}
use Rattle.std.proofs.Math.Nat.{mul-le-mul_right}
use Rattle.exact_time.specs.SampleTime.{sample_micros, sample_parts, floor_at}
use Rattle.exact_time.proofs.Wholes.{floor_decides}
use Rattle.mseed_header.specs.Header.{EndsInTime, IsRecord}
use Rattle.mseed_header.specs.Times.{last_index}
use Rattle.mseed_header.specs.declared.header.Header.{Header}
use Rattle.mseed_header.specs.declared.row.Row.{Row}
use Rattle.availability.specs.Spans.{last_moment}

not_greater : (a b : ℤ) → ¬ (int_cmp a b ≡ Greater) → a ≤ℤ b
not_greater a b h =
    elim (int_cmp a b) as (λ o. int_cmp a b ≡ o → MatchOrdering o (a <ℤ b) (a ≡ b) (b <ℤ a) → a ≤ℤ b) [
      | Less ↦ λ _ k. omega (arith, ints)
      | Equal ↦ λ _ k. omega (arith, ints)
      | Greater ↦ λ e _. absurd (h e)
    ] refl (int_ranked a b (int_cmp a b) refl)

fewer : (n d : ℕ) → (n - 1) * d * 1_000_000 ≤ n * d * 1_000_000
fewer n d = let le : n - 1 ≤ n = omega arith in let more : (n - 1) * d ≤ n * d = mul-le-mul_right d le in omega (arith, more)

below_end : (a : ℤ) (l n p : ℕ) → l ≤ n → 0 < p → (a +ℤ pos n) ≤ℤ (pos 19_880_899_200_000_000 *ℤ pos p) → (a +ℤ pos l) <ℤ (pos 23_068_108_800_000_000 *ℤ pos p)
below_end a l n p h some k = omega (arith, ints)

below_alone : (a : ℤ) → a ≤ℤ (pos 19_880_899_200_000_000 *ℤ pos 1) → a <ℤ (pos 23_068_108_800_000_000 *ℤ pos 1)
below_alone a k = omega (arith, ints)

last_before : (h : Header) → EndsInTime h.start.micros h.samples h.rate
    → sample_micros h.start.micros (last_index h) h.rate <ℤ (pos 23_068_108_800_000_000 *ℤ pos (sample_parts h.rate))
last_before h ends =
    let s = h.start.micros in
    let le = not_greater (sample_micros s h.samples h.rate) (pos 19_880_899_200_000_000 *ℤ pos (sample_parts h.rate)) ends in
    elim (h.rate.num == 0) as (λ b. h.rate.num == 0 ≡ b
    → cond b s (s *ℤ pos h.rate.num +ℤ pos (h.samples * h.rate.den * 1_000_000)) ≤ℤ (pos 19_880_899_200_000_000 *ℤ pos (cond b 1 h.rate.num))
    → cond b s (s *ℤ pos h.rate.num +ℤ pos (cond b 0 (h.samples - 1) * h.rate.den * 1_000_000)) <ℤ (pos 23_068_108_800_000_000 *ℤ pos (cond b 1 h.rate.num))) [
      | true ↦ λ _ k. below_alone s k
      | false ↦ λ e k. below_end (s *ℤ pos h.rate.num) ((h.samples - 1) * h.rate.den * 1_000_000) (h.samples * h.rate.den * 1_000_000) h.rate.num (fewer h.samples h.rate.den) (let some : 0 < h.rate.num = grind (arith, nat_tests) in some) k
    ] refl le

ends_in_time : (row : Row) → EndsInTime row.header.start.micros row.header.samples row.header.rate
unfolding IsRecord
ends_in_time row = row.head.0.reach

last_still : (h : Header) → h.rate.num ≡ 0 → last_index h ≡ 0
last_still h none = elim (h.rate.num == 0) as (λ b. h.rate.num == 0 ≡ b → cond b 0 (h.samples - 1) ≡ 0) [
  | true ↦ λ _. refl
  | false ↦ λ e. absurd (let same : h.rate.num == 0 ≡ true = ap (λ n. n == 0) none in let no : true ≡ false = sym same ∙ e in true≢false no)
] refl

not_reached : (a b : ℤ) → a <ℤ b → is_ge (int_cmp a b) ≡ false
not_reached a b h =
    elim (int_cmp a b) as (λ o. MatchOrdering o (a <ℤ b) (a ≡ b) (b <ℤ a) → is_ge o ≡ false) [
      | Less ↦ λ _. refl
      | Equal ↦ λ e. absurd (omega (arith, ints))
      | Greater ↦ λ e. absurd (omega (arith, ints))
    ] (int_ranked a b (int_cmp a b) refl)

below : (m f : ℤ) → int_le m f ≡ false → f <ℤ m
below m f h = grind (arith, ints)

pub last_moment_before : (row : Row) → (last_moment row.header).micros <ℤ pos 23_068_108_800_000_000
last_moment_before row =
    let h = row.header in
    let m = pos 23_068_108_800_000_000 in
    below m (floor_at h.start.micros (last_index h) h.rate)
    (floor_decides h.start.micros (last_index h) h.rate m (last_still h)
    ∙ not_reached (sample_micros h.start.micros (last_index h) h.rate) (m *ℤ pos (sample_parts h.rate)) (last_before h (ends_in_time row)))
