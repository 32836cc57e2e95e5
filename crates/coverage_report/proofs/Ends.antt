-- A moment is before the time after the last sample exactly where it is before its end.
use Rattle.std.proofs.Common.{◌≡◌, ℕ, zero, suc, ◌+◌, ◌-◌, ◌*◌, ◌/◌, ◌<◌, ◌==◌, ℤ, pos, ◌+ℤ◌, ◌-ℤ◌, ◌*ℤ◌, Bool, false, not, cond, sym, ap, ◌∙◌, arith, eq-eqb}
use Rattle.std.specs.Prelude.{int_lt}
use Rattle.std.specs.Ordering.{int_cmp, is_gt}
use Rattle.std.proofs.lemmas.Bool.Decides.{nat_tests}
use Rattle.std.proofs.lemmas.Int.{ints}
use Rattle.exact_time.specs.SampleTime.{sample_micros, sample_parts, compare_sample}
use Rattle.exact_time.proofs.Wholes.{decides, some_parts, micros_is}
use Rattle.mseed_header.specs.Times.{next_index}
use Rattle.mseed_header.specs.declared.header.Header.{Header}
use Rattle.coverage_report.specs.Ends.{rounded_up, end_moment}

above_is : (a b : ℤ) → is_gt (int_cmp a b) ≡ int_lt b a
above_is a b = grind (arith, ints)

turned : (x y : ℤ) (a : ℕ) → int_lt x (y +ℤ pos (suc a)) ≡ not (int_lt (pos 0) (x -ℤ (y +ℤ pos a)))
turned x y a = grind (arith, ints)

up_to : (x y : ℤ) (a : ℕ) → not (int_lt (y +ℤ pos a) x) ≡ int_lt x (y +ℤ pos (suc a))
up_to x y a = grind (arith, ints)

more_than_none : (a p : ℕ) → suc (a / p) ≡ rounded_up (suc a) p
more_than_none a p =
    let test : (suc a == 0) ≡ false = grind (arith, nat_tests) in
    let less : suc a - 1 ≡ a = omega arith in
    let more : suc (a / p) ≡ (suc a - 1) / p + 1 = omega (arith, ap (λ (n : ℕ). n / p) less) in
    more ∙ ap (λ (b : Bool). cond b 0 ((suc a - 1) / p + 1)) (sym test)

below : (x y : ℤ) → int_lt x (y +ℤ pos 0) ≡ int_lt (pos 0) (y -ℤ (x +ℤ pos 0))
below x y = grind (arith, ints)

short : (x y : ℤ) → int_lt (x +ℤ pos 0) y ≡ int_lt x (y +ℤ pos 0)
short x y = grind (arith, ints)

no_part : (p : ℕ) → 0 < p → (0 + 0) / p ≡ 0
no_part p h = omega (arith, h)

same_sum : (a : ℕ) → a + 0 ≡ a
same_sum a = omega arith

before_end : (s t : ℤ) (ahead p : ℕ) → 0 < p → int_lt (t *ℤ pos p) (s *ℤ pos p +ℤ pos ahead) ≡ int_lt t (s +ℤ pos (rounded_up ahead p))
before_end s t zero p some =
    below (t *ℤ pos p) (s *ℤ pos p) ∙ decides 0 0 p some t s ∙ ap (λ n. int_lt (t +ℤ pos n) s) (no_part p some) ∙ short t s
before_end s t (suc a) p some =
    turned (t *ℤ pos p) (s *ℤ pos p) a ∙ ap not (decides a 0 p some s t) ∙ ap (λ n. not (int_lt (s +ℤ pos (n / p)) t)) (same_sum a) ∙ up_to t s (a / p) ∙ ap (λ n. int_lt t (s +ℤ pos n)) (more_than_none a p)

still : (h : Header) → h.rate.num ≡ 0 → next_index h ≡ 0
still h e = ap (λ (b : Bool). cond b 0 h.samples) (eq-eqb h.rate.num 0 e)

pub end_is : (h : Header) (t : ℤ) → int_lt t (end_moment h) ≡ is_gt (compare_sample h.start.micros (next_index h) h.rate t)
end_is h t =
    sym (above_is (sample_micros h.start.micros (next_index h) h.rate) (t *ℤ pos (sample_parts h.rate))
    ∙ ap (int_lt (t *ℤ pos (sample_parts h.rate))) (micros_is h.start.micros (next_index h) h.rate (still h))
    ∙ before_end h.start.micros t (next_index h * h.rate.den * 1_000_000) (sample_parts h.rate) (some_parts h.rate))
