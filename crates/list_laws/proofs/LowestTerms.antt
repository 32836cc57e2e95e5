-- A fraction has one form in lowest terms.
use Rattle.std.proofs.Common.{◌≡◌, ℕ, zero, suc, ◌+◌, ◌-◌, ◌*◌, ◌/◌, ◌<◌, ◌≤◌, ◌∙◌, arith, sym, ap, subst, inl, inr}
use Rattle.std.proofs.Math.Nat.{mul-div_cancel', mul-div_cancel_left, one-dvd, mul-dvd-mul_left, dvd_of_mul-dvd-mul_left, dvd-mul_left, dvd-mul_right, dvd-add_iff_left, dvd-sub_iff_left, add-mul, mul_comm, mul_assoc, mul_left_comm, mul_right_comm}
use Rattle.std.proofs.lemmas.Nat.Gcd.{dvd_refl, dvd-zero, dvd_trans, dvd_antisymm}
use Rattle.std.proofs.lemmas.Bool.{cases_lt}
use Rattle.std.specs.Int.{IsGcd}
use Prim.Native.Nat.{◌∣◌}

-- without the divisor once
gcd_less : (n d : ℕ) → d ≤ n → IsGcd n d 1 → IsGcd (n - d) d 1
gcd_less n d le h = (one-dvd (n - d), one-dvd d, λ k p q. h.2 k ((dvd-sub_iff_left k le q).0 p) q)

divides_less : (n d b : ℕ) → d ≤ n → d ∣ n * b → d ∣ (n - d) * b
divides_less n d b le h =
    let whole : n - d + d ≡ n = omega arith in
    let sum : (n - d) * b + d * b ≡ n * b = sym (add-mul (n - d) d b) ∙ ap (λ (x : ℕ). x * b) whole in
    (dvd-add_iff_left d {m = (n - d) * b} {n = d * b} (dvd-mul_right d b)).1 (subst (λ (x : ℕ). d ∣ x) (sym sum) h)

swapped : (n d : ℕ) → IsGcd n d 1 → IsGcd d n 1
swapped n d h = (h.1, h.0, λ k p q. h.2 k q p)

-- what divides a product and has no divisor in common with one part divides the other, by Euclid
divides_other : (fuel n d b : ℕ) → n + d ≤ fuel → 0 < d → IsGcd n d 1 → d ∣ n * b → d ∣ b
divides_other zero n d b size some h divides = absurd (omega arith)
divides_other (suc fuel) zero d b size some h divides = dvd_trans d (h.2 d (dvd-zero d) (dvd_refl d)) (one-dvd b)
divides_other (suc fuel) (suc m) d b size some h divides =
    elim (cases_lt (suc m) d) [
      | inr ge ↦ divides_other fuel (suc m - d) d b (omega arith) some (gcd_less (suc m) d ge h) (divides_less (suc m) d b ge divides)
      | inl lt ↦
          let c : ℕ = suc m * b / d in
          let product : d * c ≡ suc m * b = mul-div_cancel' d divides in
          let below : suc m ≤ d = omega arith in
          let left : suc m ∣ d * c = subst (λ (x : ℕ). suc m ∣ x) (sym product) (dvd-mul_right (suc m) b) in
          let inner : suc m ∣ c = divides_other fuel (d - suc m) (suc m) c (omega arith) (omega arith) (gcd_less d (suc m) below (swapped (suc m) d h)) (divides_less d (suc m) c below left) in
          let both : suc m * d ∣ suc m * b =
          subst (λ (x : ℕ). x ∣ suc m * b) (mul_comm d (suc m)) (subst (λ (x : ℕ). d * suc m ∣ x) product (mul-dvd-mul_left (suc m) d inner)) in
          dvd_of_mul-dvd-mul_left d (omega arith) both
    ]

cancelled : (q x y : ℕ) → 0 < q → q * x ≡ q * y → x ≡ y
cancelled q x y some e = sym (mul-div_cancel_left x some) ∙ ap (λ (z : ℕ). z / q) e ∙ mul-div_cancel_left y some

crossed : (n d a b p q : ℕ) → 0 < q → n * q ≡ p * d → a * q ≡ p * b → n * b ≡ a * d
crossed n d a b p q some e f =
    let left : q * (n * b) ≡ p * d * b = mul_left_comm q n b ∙ sym (mul_assoc n q b) ∙ ap (λ (x : ℕ). x * b) e in
    let right : q * (a * d) ≡ p * b * d = mul_left_comm q a d ∙ sym (mul_assoc a q d) ∙ ap (λ (x : ℕ). x * d) f in
    cancelled q (n * b) (a * d) some (left ∙ mul_right_comm p d b ∙ sym right)

-- two forms in lowest terms of one value are the same
pub one_form : (n d a b p q : ℕ) → 0 < q → 0 < d → 0 < b → IsGcd n d 1 → IsGcd a b 1 → n * q ≡ p * d → a * q ≡ p * b → (n ≡ a) × (d ≡ b)
one_form n d a b p q some d_some b_some h k e f =
    let cross : n * b ≡ a * d = crossed n d a b p q some e f in
    let forth : d ∣ b = divides_other (n + d) n d b (omega arith) d_some h (subst (λ (x : ℕ). d ∣ x) (sym cross) (dvd-mul_left d a)) in
    let back : b ∣ d = divides_other (a + b) a b d (omega arith) b_some k (subst (λ (x : ℕ). b ∣ x) cross (dvd-mul_left b n)) in
    let same : d ≡ b = dvd_antisymm forth back in
    (cancelled b n a b_some (mul_comm b n ∙ cross ∙ ap (λ (x : ℕ). a * x) same ∙ mul_comm a b), same)
