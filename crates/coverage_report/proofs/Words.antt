-- What the definition of a report says of every list of rows.
use Rattle.std.proofs.Common.{◌≡◌, ℕ, zero, suc, ◌+◌, ◌*◌, ◌≤◌, ℤ, pos, ◌+ℤ◌, Bool, true, false, ◌&&◌, List, cond, refl, sym, ap, ap₂, ◌∙◌, arith, eq-eqb}
use Rattle.std.specs.Prelude.{int_le, int_lt}
use Rattle.std.specs.List.{list_any}
use Rattle.std.proofs.lemmas.Int.{ints}
use Rattle.exact_time.specs.SampleTime.{sample_parts}
use Rattle.channel_globs.specs.declared.nslc.Nslc.{Nslc}
use Rattle.mseed_header.specs.Times.{next_index}
use Rattle.mseed_header.specs.declared.header.Header.{Header}
use Rattle.mseed_header.specs.declared.row.Row.{Row}
use Rattle.dataselect.specs.MergedSpans.{has_name}
use Rattle.coverage_report.specs.Covered.{counted, covers, is_covered, covered}
use Rattle.coverage_report.specs.Ends.{rounded_up, end_moment}
use Rattle.coverage_report.proofs.Ends.{end_is}

counted_most : (test : ℤ → Bool) (from : ℤ) (n : ℕ) → counted test from n ≤ n
unfolding counted
counted_most test from zero = omega arith
counted_most test from (suc n) =
    let rest = counted_most test (from +ℤ pos 1) n in
    elim (test from) as (λ b. cond b 1 0 + counted test (from +ℤ pos 1) n ≤ suc n) [ true ↦ omega (arith, rest) | false ↦ omega (arith, rest) ]

counted_same : (p q : ℤ → Bool) → ((t : ℤ) → p t ≡ q t) → (from : ℤ) (n : ℕ) → counted p from n ≡ counted q from n
unfolding counted
counted_same p q same from zero = refl
counted_same p q same from (suc n) = ap₂ (λ (b : Bool) (k : ℕ). cond b 1 0 + k) (same from) (counted_same p q same (from +ℤ pos 1) n)

pub covered_most : (rows : List Row) (name : Nslc) (day : ℤ) → covered rows name day ≤ 86_400_000_000
covered_most rows name day = counted_most (is_covered rows name) day 86_400_000_000

pub members_decide : (rows others : List Row) → ((test : Row → Bool) → list_any test rows ≡ list_any test others)
    → (name : Nslc) (day : ℤ) → covered rows name day ≡ covered others name day
members_decide rows others same name day =
    counted_same (is_covered rows name) (is_covered others name) (λ t. same (λ row. has_name name row && covers row.header t)) day 86_400_000_000

-- where the rate is 0, the end is the start
still_end : (h : Header) → h.rate.num ≡ 0 → end_moment h ≡ h.start.micros +ℤ pos 0
still_end h e =
    let none : next_index h ≡ 0 = ap (λ (b : Bool). cond b 0 h.samples) (eq-eqb h.rate.num 0 e) in
    let ahead : next_index h * h.rate.den * 1_000_000 ≡ 0 = ap (λ (n : ℕ). n * h.rate.den * 1_000_000) none ∙ nothing h.rate.den in
    ap (λ (n : ℕ). h.start.micros +ℤ pos (rounded_up n (sample_parts h.rate))) ahead
  where
    nothing : (d : ℕ) → 0 * d * 1_000_000 ≡ 0
    nothing d = omega arith

nothing_in : (s t : ℤ) → (int_le s t && int_lt t (s +ℤ pos 0)) ≡ false
nothing_in s t = grind (arith, ints)

pub still_covers : (h : Header) (t : ℤ) → h.rate.num ≡ 0 → covers h t ≡ false
still_covers h t e =
    ap (λ b. int_le h.start.micros t && b) (sym (end_is h t) ∙ ap (int_lt t) (still_end h e)) ∙ nothing_in h.start.micros t
