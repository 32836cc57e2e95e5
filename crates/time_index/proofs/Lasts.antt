-- How long a record lasts, and how far it reaches.
use Rattle.std.proofs.Common.{◌≡◌, ℕ, suc, ◌+◌, ◌*◌, ◌<◌, ◌≤◌, ◌==◌, true, false, cond, refl, sym, arith, ℤ, pos, negsuc, ◌+ℤ◌, ◌*ℤ◌, ◌≤ℤ◌, ◌<ℤ◌, true≢false}
use Rattle.std.specs.Ordering.{int_cmp, is_ge, MatchOrdering}
use Rattle.std.specs.declared.cmp.Ordering.TheVariants.{Less, Equal, Greater}
use Rattle.std.proofs.Math.Nat.{lt_of_mul-lt-mul_right, mul-le-mul_right}
use Rattle.std.proofs.lemmas.Bool.Decides.{nat_tests}
use Rattle.std.proofs.lemmas.Cmp.{int_ranked}
use Rattle.std.proofs.lemmas.Grind.{div_ceil_times}
use Rattle.std.proofs.lemmas.Int.{ints}
use Rattle.exact_time.specs.SampleTime.{sample_micros, sample_parts}
use Rattle.exact_time.specs.declared.ratio.Ratio.{Ratio}
use Rattle.mseed_header.specs.Times.{last_index}
use Rattle.mseed_header.specs.declared.header.Header.{Header}
use Rattle.dataselect.specs.Query.{reaches}
use Rattle.time_index.specs.Index.{LastsAtMost}
use Rattle.time_index.specs.Spots.{micros_lasted}

some_parts : (rate : Ratio) → 0 < sample_parts rate
some_parts rate =
    elim (rate.num == 0) as (λ b. (rate.num == 0) ≡ b → 0 < cond b 1 rate.num) [
      | true ↦ λ e. omega arith
      | false ↦ λ e. grind (arith, nat_tests)
    ] refl

pub lasts_at_most : (h : Header) → LastsAtMost h (micros_lasted h)
lasts_at_most h = (div_ceil_times (last_index h * h.rate.den * 1_000_000) (sample_parts h.rate) (some_parts h.rate)).0

pub lasts_longer : (h : Header) (a b : ℕ) → LastsAtMost h a → a ≤ b → LastsAtMost h b
lasts_longer h a b lasts more = omega (arith, lasts, mul-le-mul_right (sample_parts h.rate) more)

cancelled : (a b p : ℕ) → 0 < p → a * p ≤ b * p → a ≤ b
cancelled a b p some h =
    let further : a * p < suc b * p = omega (arith, h, some) in
    let less : a < suc b = lt_of_mul-lt-mul_right p further in
    omega (arith, less)

-- what is reached by a lead of n, in parts of a microsecond, is reached by whole microseconds
within : (t s : ℤ) (n longest p : ℕ) → 0 < p → n ≤ longest * p → (t *ℤ pos p) ≤ℤ ((s *ℤ pos p) +ℤ pos n) → t ≤ℤ (s +ℤ pos longest)
within (pos a) (pos b) n longest p some most h =
    let in_parts : a * p ≤ (b + longest) * p = omega (arith, ints, h, most) in
    let whole = cancelled a (b + longest) p some in_parts in
    omega (arith, ints, whole)
within (pos a) (negsuc b) n longest p some most h =
    let in_parts : (a + suc b) * p ≤ longest * p = omega (arith, ints, h, most) in
    let whole = cancelled (a + suc b) longest p some in_parts in
    omega (arith, ints, whole)
within (negsuc a) (pos b) n longest p some most h = omega (arith, ints)
within (negsuc a) (negsuc b) n longest p some most h =
    let in_parts : suc b * p ≤ (suc a + longest) * p = omega (arith, ints, h, most) in
    let whole = cancelled (suc b) (suc a + longest) p some in_parts in
    omega (arith, ints, whole)

sample_within : (s : ℤ) (k : ℕ) (rate : Ratio) → sample_micros s k rate ≤ℤ ((s *ℤ pos (sample_parts rate)) +ℤ pos (k * rate.den * 1_000_000))
sample_within s k rate =
    elim (rate.num == 0) as (λ b. cond b s ((s *ℤ pos rate.num) +ℤ pos (k * rate.den * 1_000_000)) ≤ℤ ((s *ℤ pos (cond b 1 rate.num)) +ℤ pos (k * rate.den * 1_000_000))) [
      | true ↦ omega (arith, ints)
      | false ↦ omega (arith, ints)
    ]

joined : (a b c : ℤ) → a ≤ℤ b → b ≤ℤ c → a ≤ℤ c
joined a b c h k = omega (arith, ints)

not_above : (a b : ℤ) → is_ge (int_cmp a b) ≡ true → b ≤ℤ a
not_above a b h =
    elim (int_cmp a b) as (λ o. MatchOrdering o (a <ℤ b) (a ≡ b) (b <ℤ a) → is_ge o ≡ true → b ≤ℤ a) [
      | Less ↦ λ _ k. absurd (true≢false (sym k))
      | Equal ↦ λ e _. omega (arith, ints, e)
      | Greater ↦ λ m _. omega (arith, ints, m)
    ] (int_ranked a b (int_cmp a b) refl) h

-- a record that lasts so long at most, and reaches a moment, starts at most so long before it
pub starts_near : (h : Header) (t : ℤ) (longest : ℕ) → reaches h t ≡ true → LastsAtMost h longest → t ≤ℤ (h.start.micros +ℤ pos longest)
starts_near h t longest reached lasts =
    within t h.start.micros (last_index h * h.rate.den * 1_000_000) longest (sample_parts h.rate) (some_parts h.rate) lasts
    (joined (t *ℤ pos (sample_parts h.rate)) _ _ (not_above _ (t *ℤ pos (sample_parts h.rate)) reached) (sample_within h.start.micros (last_index h) h.rate))
