-- A test of fractions is a test of whole microseconds.
use Rattle.std.proofs.Common.{◌≡◌, ℕ, suc, ◌+◌, ◌*◌, ◌/◌, ◌<◌, ◌≤◌, ◌==◌, ◌^◌, max, ℤ, pos, negsuc, ◌+ℤ◌, ◌-ℤ◌, ◌*ℤ◌, ◌≤ℤ◌, true, false, not, refl, sym, ap, ◌∙◌, arith, cond, subst}
use Rattle.std.specs.Prelude.{int_lt, int_le, nat_lt, nat_le, unsigned_abs, neg_ℤ, ◌-◌, ◌↔◌, IsTrue}
use Rattle.std.specs.Int.{int_min}
use Rattle.std.specs.Ordering.{int_cmp, is_ge}
use Rattle.std.proofs.lemmas.Int.{ints, by_lt_z}
use Rattle.std.proofs.lemmas.Nat.{div_below, le-div}
use Rattle.std.proofs.lemmas.Bool.Decides.{nat_tests}
use Rattle.exact_time.specs.declared.ratio.Ratio.{Ratio}
use Rattle.exact_time.specs.declared.sample.SampleTime.{SampleTime}
use Rattle.exact_time.specs.SampleTime.{sample_micros, sample_parts, half_parts, compare_sample, sample_cmp, floor_at, floor_micros, reach_at, reach_micros, lateness, IsGapAtMost}

-- a number below a product, and the quotient below the other factor
below_product : (m p d : ℕ) → 0 < p → nat_lt m (d * p) ≡ nat_lt (m / p) d
below_product m p d h =
    elim (nat_lt m (d * p)) as (λ b. nat_lt m (d * p) ≡ b → b ≡ nat_lt (m / p) d) [
      | true ↦ λ e. let below : m < d * p = grind (arith, nat_tests) in let less : m / p < d = div_below m p d h below in grind (arith, nat_tests)
      | false ↦ λ e. let above : d * p ≤ m = grind (arith, nat_tests) in let more : d ≤ m / p = le-div d m p h above in grind (arith, nat_tests)
    ] refl

spread : (a b p : ℕ) → (a + b) * p ≡ a * p + b * p
spread a b p = grind arith

below : (s e d : ℕ) → d ≡ s + e → pos e ≡ neg_ℤ (pos s) +ℤ pos d
below s e d h = omega (arith, ints, h)

above : (s e d : ℕ) → s ≡ e + d → neg_ℤ (pos e) ≡ neg_ℤ (pos s) +ℤ pos d
above s e d h = omega (arith, ints, h)

-- a product with a sum
pub times_more : (s : ℤ) (d p : ℕ) → (s +ℤ pos d) *ℤ pos p ≡ s *ℤ pos p +ℤ pos (d * p)
times_more (pos s) d p = ap pos (spread s d p)
times_more (negsuc s) d p =
    elim (nat_le (suc s) d) as (λ b. nat_le (suc s) d ≡ b → (negsuc s +ℤ pos d) *ℤ pos p ≡ negsuc s *ℤ pos p +ℤ pos (d * p)) [
      | true ↦ λ h.
          let le : suc s ≤ d = grind (arith, nat_tests) in
          let e : negsuc s +ℤ pos d ≡ pos (d - suc s) = omega (arith, ints) in
          let f : d * p ≡ suc s * p + (d - suc s) * p = (let g : d ≡ suc s + (d - suc s) = omega (arith, le) in ap (λ (k : ℕ). k * p) g) ∙ spread (suc s) (d - suc s) p in
          ap (λ (z : ℤ). z *ℤ pos p) e ∙ below (suc s * p) ((d - suc s) * p) (d * p) f
      | false ↦ λ h.
          let lt : d ≤ s = grind (arith, nat_tests) in
          let e : negsuc s +ℤ pos d ≡ negsuc (s - d) = omega (arith, ints) in
          let f : suc s * p ≡ suc (s - d) * p + d * p = (let g : suc s ≡ suc (s - d) + d = omega (arith, lt) in ap (λ (k : ℕ). k * p) g) ∙ spread (suc (s - d)) d p in
          ap (λ (z : ℤ). z *ℤ pos p) e ∙ above (suc s * p) (suc (s - d) * p) (d * p) f
    ] refl

later : (s : ℤ) (n a most : ℕ) → int_lt (pos most) ((s +ℤ pos n) -ℤ (s +ℤ pos a)) ≡ nat_lt (a + most) n
later s n a most = grind (arith, ints)

earlier_not : (q : ℤ) (n a most : ℕ) → int_lt (pos most) (q -ℤ ((q +ℤ pos n) +ℤ pos a)) ≡ false
earlier_not q n a most = grind (arith, ints)

short_of : (s : ℤ) (k d : ℕ) → nat_lt k d ≡ int_lt (s +ℤ pos k) (s +ℤ pos d)
short_of s k d = grind (arith, ints)

not_short_of : (q : ℤ) (k d : ℕ) → int_lt ((q +ℤ pos d) +ℤ pos k) q ≡ false
not_short_of q k d = grind (arith, ints)

module _ (ahead most p : ℕ) (some : 0 < p) where
  abbrev Decides : ℤ → ℤ → Type 0
  Decides s q = int_lt (pos most) (q *ℤ pos p -ℤ (s *ℤ pos p +ℤ pos ahead)) ≡ int_lt (s +ℤ pos ((ahead + most) / p)) q

  on : (s : ℤ) (d : ℕ) → Decides s (s +ℤ pos d)
  on s d =
      ap (λ (z : ℤ). int_lt (pos most) (z -ℤ (s *ℤ pos p +ℤ pos ahead))) (times_more s d p)
      ∙ later (s *ℤ pos p) (d * p) ahead most
      ∙ below_product (ahead + most) p d some
      ∙ short_of s ((ahead + most) / p) d

  back : (q : ℤ) (d : ℕ) → Decides (q +ℤ pos d) q
  back q d =
      ap (λ (z : ℤ). int_lt (pos most) (q *ℤ pos p -ℤ (z +ℤ pos ahead))) (times_more q d p)
      ∙ earlier_not (q *ℤ pos p) (d * p) ahead most
      ∙ sym (not_short_of q ((ahead + most) / p) d)

  -- a moment is later than a fraction by more than so much exactly where it is later than the whole part
  pub decides : (s q : ℤ) → Decides s q
  decides s q =
      by_lt_z s q
      (λ h. let e : s +ℤ pos (unsigned_abs (q -ℤ s)) ≡ q = omega (arith, ints) in subst (λ (z : ℤ). Decides s z) e (on s (unsigned_abs (q -ℤ s))))
      (λ h. let e : q +ℤ pos (unsigned_abs (s -ℤ q)) ≡ s = omega (arith, ints) in subst (λ (z : ℤ). Decides z q) e (back q (unsigned_abs (s -ℤ q))))

pub some_parts : (rate : Ratio) → 0 < sample_parts rate
some_parts rate = elim (rate.num == 0) as (λ b. rate.num == 0 ≡ b → 0 < cond b 1 rate.num) [
  | true ↦ λ _. omega arith
  | false ↦ λ e. grind (arith, nat_tests)
] refl

once : (s : ℤ) → s ≡ s *ℤ pos 1 +ℤ pos 0
once s = omega (arith, ints)

no_lead : (k d : ℕ) → k ≡ 0 → 0 ≡ k * d * 1_000_000
no_lead k d h = grind arith

-- a sample's time is its start, times the divisor, and what is ahead of it
pub micros_is : (s : ℤ) (k : ℕ) (rate : Ratio) → (rate.num ≡ 0 → k ≡ 0) → sample_micros s k rate ≡ s *ℤ pos (sample_parts rate) +ℤ pos (k * rate.den * 1_000_000)
micros_is s k rate still =
    elim (rate.num == 0) as (λ b. rate.num == 0 ≡ b → cond b s (s *ℤ pos rate.num +ℤ pos (k * rate.den * 1_000_000)) ≡ s *ℤ pos (cond b 1 rate.num) +ℤ pos (k * rate.den * 1_000_000)) [
      | true ↦ λ e.
          let none : rate.num ≡ 0 = grind (arith, nat_tests) in
          once s ∙ ap (λ n. s *ℤ pos 1 +ℤ pos n) (no_lead k rate.den (still none))
      | false ↦ λ _. refl
    ] refl

-- a moment is later than a sample by more than so much exactly where it is later than the whole part
later_than : (s : ℤ) (k : ℕ) (rate : Ratio) (most : ℕ) (q : ℤ) → (rate.num ≡ 0 → k ≡ 0)
    → int_lt (pos most) (q *ℤ pos (sample_parts rate) -ℤ sample_micros s k rate) ≡ int_lt (s +ℤ pos ((k * rate.den * 1_000_000 + most) / sample_parts rate)) q
later_than s k rate most q still =
    ap (λ z. int_lt (pos most) (q *ℤ pos (sample_parts rate) -ℤ z)) (micros_is s k rate still)
    ∙ decides (k * rate.den * 1_000_000) most (sample_parts rate) (some_parts rate) s q

-- a moment is behind the reach of a sample exactly where it is later by more than is allowed
pub reach_decides : (s : ℤ) (k : ℕ) (rate : Ratio) (slack : ℕ) (q : ℤ) → (rate.num ≡ 0 → k ≡ 0)
    → int_lt (pos (max (slack * sample_parts rate) (half_parts rate))) (q *ℤ pos (sample_parts rate) -ℤ sample_micros s k rate) ≡ int_lt (reach_at s k rate slack) q
reach_decides s k rate slack q still = later_than s k rate (max (slack * sample_parts rate) (half_parts rate)) q still

not_later : (a b : ℤ) → is_ge (int_cmp a b) ≡ not (int_lt (pos 0) (b -ℤ a))
not_later a b = grind (arith, ints)

no_more : (n : ℕ) → n + 0 ≡ n
no_more n = omega arith

up_to : (a b : ℤ) → not (int_lt a b) ≡ int_le b a
up_to a b = grind (arith, ints)

-- a moment isn't later than a sample exactly where it isn't later than the whole part
pub floor_decides : (s : ℤ) (k : ℕ) (rate : Ratio) (q : ℤ) → (rate.num ≡ 0 → k ≡ 0) → int_le q (floor_at s k rate) ≡ is_ge (compare_sample s k rate q)
floor_decides s k rate q still =
    sym (not_later (sample_micros s k rate) (q *ℤ pos (sample_parts rate))
    ∙ ap not (later_than s k rate 0 q still)
    ∙ ap (λ n. not (int_lt (s +ℤ pos (n / sample_parts rate)) q)) (no_more (k * rate.den * 1_000_000))
    ∙ up_to (floor_at s k rate) q)

below_top : (q a top : ℤ) → q ≤ℤ top → int_le q (int_min a top) ≡ int_le q a
below_top q a top h = grind (arith, ints)

pub floor_is : (t : SampleTime) (q : ℤ) → q ≤ℤ pos (2 ^ 63 - 1) → int_le q (int_min (floor_micros t) (pos (2 ^ 63 - 1))) ≡ is_ge (sample_cmp t q)
floor_is t q h = below_top q (floor_micros t) (pos (2 ^ 63 - 1)) h ∙ floor_decides t.start.micros t.k t.rate q t.still

at_most : (a b : ℤ) → IsTrue (not (int_lt a b)) ↔ (b ≤ℤ a)
at_most a b = grind (arith, ints)

-- a moment is up to the reach of a time exactly where it follows without a gap
pub reach_is : (t : SampleTime) (slack : ℕ) (q : ℤ) → IsTrue (int_le q (reach_micros t slack)) ↔ IsGapAtMost t q slack
reach_is t slack q =
    subst (λ b. IsTrue b ↔ IsGapAtMost t q slack)
    (ap not (reach_decides t.start.micros t.k t.rate slack q t.still) ∙ up_to (reach_micros t slack) q)
    (at_most (pos (max (slack * sample_parts t.rate) (half_parts t.rate))) (lateness t q))
