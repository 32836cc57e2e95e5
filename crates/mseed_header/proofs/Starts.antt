-- The sum of a start time and its correction, and the time after the last sample.
use Rattle.std.proofs.Common.{◌≡◌, ℕ, ◌==◌, ◌<◌, if◌then◌else◌, Bool, true, false, arith, refl, sym, ◌∙◌, ℤ, pos, ◌+ℤ◌, ◌*ℤ◌, to_z, of_z, w32, w64, FitsSigned, unsigned_abs, ◌^◌}
use Rattle.std.specs.Prelude.{IsTrue, ◌↔◌, not}
use Rattle.std.specs.Ordering.{ordering_index}
use Rattle.std.specs.declared.cmp.Ordering.{Ordering}
use Rattle.std.specs.declared.cmp.Ordering.TheVariants.{Less, Equal, Greater}
use Rattle.std.proofs.lemmas.Int.{ints}
use Rattle.exact_time.specs.SampleTime.{compare_sample}
use Rattle.exact_time.specs.declared.ratio.Ratio.{Ratio}

-- the sum in an `i64` is the sum
pub sum_is : (m k a b : ℤ) → unsigned_abs m < 2 ^ 62 → FitsSigned w32 k → m ≡ a → k ≡ b
    → to_z w64 (of_z w64 (to_z w64 (of_z w64 m) +ℤ to_z w64 (of_z w64 (to_z w64 (of_z w64 (to_z w32 (of_z w32 k))) *ℤ pos 100)))) ≡ a +ℤ b *ℤ pos 100
sum_is m k a b bound small is also =
    let sum : to_z w64 (of_z w64 (to_z w64 (of_z w64 m) +ℤ to_z w64 (of_z w64 (to_z w64 (of_z w64 (to_z w32 (of_z w32 k))) *ℤ pos 100)))) ≡ m +ℤ k *ℤ pos 100 = omega (arith, ints, bound, small) in
    sum ∙ (λ i. is i +ℤ also i *ℤ pos 100)

-- a time that is not later
pub not_later : (o : Ordering) (r : Bool) → r ≡ not (ordering_index o == 2) → IsTrue r ↔ (¬ (o ≡ Greater))
not_later Less r is = (λ h e. absurd (cc), λ h. is)
not_later Equal r is = (λ h e. absurd (cc), λ h. is)
not_later Greater r is = (λ h e. absurd (let f = sym is ∙ h in cc), λ h. absurd (h refl))

-- at rate 0 the number of the sample is free
pub sample_free : (start : ℤ) (k : ℕ) (rate : Ratio) (q : ℤ) → compare_sample start (if rate.num == 0 then 0 else k) rate q ≡ compare_sample start k rate q
sample_free start k rate q =
    elim (rate.num == 0) as (λ b. rate.num == 0 ≡ b → compare_sample start (if rate.num == 0 then 0 else k) rate q ≡ compare_sample start k rate q) [
      | true ↦ λ e. rw e refl
      | false ↦ λ e. rw e refl
    ] refl
