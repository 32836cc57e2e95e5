-- What is longer than a length is longer than one that isn't longer than that.
use Rattle.std.proofs.Common.{◌≡◌, ℕ, ◌*◌, ◌<◌, ◌≤◌, ◌==◌, true, false, cond, List, Option, Some, None, slice_index, length, ◌-◌, refl, arith}
use Rattle.std.specs.List.{slice_get}
use Rattle.std.proofs.Math.Nat.{lt_of_mul-lt-mul_right, mul-lt-mul_of_pos_right, mul-le-mul_right}
use Rattle.std.proofs.lemmas.Bool.Decides.{nat_tests}
use Rattle.mseed_header.specs.declared.row.Row.{Row}
use Rattle.exact_time.specs.SampleTime.{sample_parts}
use Rattle.exact_time.specs.declared.ratio.Ratio.{Ratio}
use Rattle.dataselect.specs.declared.lengths.Length.{Length}
use Rattle.dataselect.specs.Segments.{length_or, segment_length, exceeds, is_longer}

some_parts : (rate : Ratio) → 0 < sample_parts rate
some_parts rate =
    elim (rate.num == 0) as (λ b. (rate.num == 0) ≡ b → 0 < cond b 1 rate.num) [
      | true ↦ λ e. omega arith
      | false ↦ λ e. grind (arith, nat_tests)
    ] refl

parts_or : (first last : Option Row) → 0 < (length_or first last).parts
parts_or (Some first) (Some last) = some_parts last.header.rate
parts_or (Some first) None = omega arith
parts_or None last = omega arith

parts_above : (rows : List Row) (segment : List ℕ) → 0 < (segment_length rows segment).parts
unfolding segment_length
parts_above rows segment = parts_or (slice_get rows (slice_index segment 0)) (slice_get rows (slice_index segment (length segment - 1)))

exceeds_further : (b s r : Length) → 0 < s.parts → exceeds s b ≡ false → exceeds r b ≡ true → exceeds r s ≡ true
exceeds_further b s r above less more =
    let one : s.micros * b.parts ≤ b.micros * s.parts = grind (arith, nat_tests) in
    let two : b.micros * r.parts < r.micros * b.parts = grind (arith, nat_tests) in
    let three : (b.micros * r.parts) * s.parts < (r.micros * b.parts) * s.parts = mul-lt-mul_of_pos_right two above in
    let four : (s.micros * b.parts) * r.parts ≤ (b.micros * s.parts) * r.parts = mul-le-mul_right r.parts one in
    let five : (s.micros * r.parts) * b.parts < (r.micros * s.parts) * b.parts = omega arith in
    let six : s.micros * r.parts < r.micros * s.parts = lt_of_mul-lt-mul_right b.parts five in
    grind (arith, nat_tests)

pub longer_further : (rows : List Row) (b s : List ℕ) → is_longer rows s b ≡ false → (r : List ℕ) → is_longer rows r b ≡ true → is_longer rows r s ≡ true
longer_further rows b s less r more = exceeds_further (segment_length rows b) (segment_length rows s) (segment_length rows r) (parts_above rows s) less more
