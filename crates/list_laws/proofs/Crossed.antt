-- The order of fractions by cross multiplication is total, and those in lowest terms that it leaves equal are
-- the same.
use Rattle.std.proofs.Common.{◌≡◌, ℕ, ◌*◌, ◌<◌, ◌==◌, ◌&&◌, true, false, refl, sym, ap, ◌∙◌, subst, arith, Ordering, nat_cmp}
use Rattle.std.specs.Cmp.{IsTotalOrder}
use Rattle.std.specs.Int.{IsGcd}
use Rattle.std.specs.Ordering.{MatchOrdering, eq_by_cmp, is_eq, ordering_reverse}
use Rattle.std.specs.declared.cmp.Ordering.TheVariants.{Less, Equal, Greater}
use Rattle.std.proofs.lemmas.Bool.Decides.{nat_tests}
use Rattle.std.proofs.lemmas.Cmp.{ranked, nat_cmp_total}
use Rattle.std.proofs.Math.Nat.{mul_right_comm, lt_of_mul-lt-mul_right, mul-lt-mul_of_pos_right}
use Rattle.list_laws.specs.Fractions.{cross_cmp}
use Rattle.list_laws.proofs.LowestTerms.{one_form}

less : (a b : ℕ) → nat_cmp a b ≡ Less → a < b
less a b h = subst (λ o. MatchOrdering o (a < b) (a ≡ b) (b < a)) h (ranked a b (nat_cmp a b) refl)

equal : (a b : ℕ) → nat_cmp a b ≡ Equal → a ≡ b
equal a b h = subst (λ o. MatchOrdering o (a < b) (a ≡ b) (b < a)) h (ranked a b (nat_cmp a b) refl)

less_is : (a b : ℕ) → a < b → nat_cmp a b ≡ Less
less_is a b h = grind arith

greater_is : (a b : ℕ) → b < a → nat_cmp a b ≡ Greater
greater_is a b h = grind arith

equal_is : (a b : ℕ) → a ≡ b → nat_cmp a b ≡ Equal
equal_is a b h = grind arith

-- numbers stand as they do multiplied by a third
scaled : (a b k : ℕ) → 0 < k → nat_cmp a b ≡ nat_cmp (a * k) (b * k)
scaled a b k some =
    elim (nat_cmp a b) as (λ o. MatchOrdering o (a < b) (a ≡ b) (b < a) → o ≡ nat_cmp (a * k) (b * k)) [
      | Less ↦ λ h. sym (less_is (a * k) (b * k) (mul-lt-mul_of_pos_right h some))
      | Equal ↦ λ h. sym (equal_is (a * k) (b * k) (ap (λ (x : ℕ). x * k) h))
      | Greater ↦ λ h. sym (greater_is (a * k) (b * k) (mul-lt-mul_of_pos_right h some))
    ] (ranked a b (nat_cmp a b) refl)

chain : (a b x y c z : ℕ) → 0 < y → 0 < x → 0 < z → a * y < b * x → b * z < c * y → a * z < c * x
chain a b x y c z some_y some_x some_z h k =
    let one : a * y * z < b * x * z = mul-lt-mul_of_pos_right h some_z in
    let two : b * z * x < c * y * x = mul-lt-mul_of_pos_right k some_x in
    lt_of_mul-lt-mul_right y (omega (arith, one, two, mul_right_comm a y z, mul_right_comm b x z, mul_right_comm c y x))

module _ {K : Type 0} (num den : K → ℕ) (some : (k : K) → 0 < den k) where
  as_other : (x y z : K) → num x * den y ≡ num y * den x → nat_cmp (num x * den z) (num z * den x) ≡ nat_cmp (num y * den z) (num z * den y)
  as_other x y z h =
      scaled (num x * den z) (num z * den x) (den y) (some y)
      ∙ (λ i. nat_cmp ((mul_right_comm (num x) (den z) (den y) ∙ ap (λ (n : ℕ). n * den z) h ∙ mul_right_comm (num y) (den x) (den z)) i) (mul_right_comm (num z) (den x) (den y) i))
      ∙ sym (scaled (num y * den z) (num z * den y) (den x) (some x))

  pub cross_total : IsTotalOrder (cross_cmp num den)
  cross_total = record {
    antisymm = λ x y. nat_cmp_total.antisymm (num x * den y) (num y * den x);
    trans = λ x y z h k.
        less_is (num x * den z) (num z * den x)
        (chain (num x) (num y) (den x) (den y) (num z) (den z) (some y) (some x) (some z) (less (num x * den y) (num y * den x) h) (less (num y * den z) (num z * den y) k));
    congr = λ x y z h. as_other x y z (equal (num x * den y) (num y * den x) h);
  }

  module _ (low : (k : K) → IsGcd (num k) (den k) 1) where
    -- fractions of one value are the same
    pub same_parts : (a b : K) → cross_cmp num den a b ≡ Equal → (num a ≡ num b) × (den a ≡ den b)
    same_parts a b h =
        one_form (num a) (den a) (num b) (den b) (num b) (den b) (some b) (some a) (some b) (low a) (low b) (equal (num a * den b) (num b * den a) h) refl

    same_is : (a b : K) (o : Ordering) → cross_cmp num den a b ≡ o → ((num a == num b) && (den a == den b)) ≡ is_eq o
    same_is a b Less h =
        let lt : num a * den b < num b * den a = less (num a * den b) (num b * den a) h in
        elim (num a == num b) as (λ p. (num a == num b) ≡ p → (p && (den a == den b)) ≡ false) [
          | true ↦ λ e. elim (den a == den b) as (λ q. (den a == den b) ≡ q → q ≡ false) [
            | true ↦ λ f.
                let m : num a ≡ num b = grind (arith, nat_tests) in
                let n : den a ≡ den b = grind (arith, nat_tests) in
                let same : num a * den b ≡ num b * den a = (λ i. m i * sym n i) in
                absurd (omega (arith, lt, same))
            | false ↦ λ f. refl
          ] refl
          | false ↦ λ e. refl
        ] refl
    same_is a b Equal h =
        let same = same_parts a b h in
        let m : (num a == num b) ≡ true = (let e = same.0 in grind (arith, nat_tests)) in
        let n : (den a == den b) ≡ true = (let e = same.1 in grind (arith, nat_tests)) in
        (λ i. m i && n i)
    same_is a b Greater h =
        let back : nat_cmp (num b * den a) (num a * den b) ≡ Less = nat_cmp_total.antisymm (num b * den a) (num a * den b) ∙ ap ordering_reverse h in
        let lt : num b * den a < num a * den b = less (num b * den a) (num a * den b) back in
        elim (num a == num b) as (λ p. (num a == num b) ≡ p → (p && (den a == den b)) ≡ false) [
          | true ↦ λ e. elim (den a == den b) as (λ q. (den a == den b) ≡ q → q ≡ false) [
            | true ↦ λ f.
                let m : num a ≡ num b = grind (arith, nat_tests) in
                let n : den a ≡ den b = grind (arith, nat_tests) in
                let same : num a * den b ≡ num b * den a = (λ i. m i * sym n i) in
                absurd (omega (arith, lt, same))
            | false ↦ λ f. refl
          ] refl
          | false ↦ λ e. refl
        ] refl

    -- those that stand equal have the same parts
    pub same_parts_are_equal : (a b : K) → ((num a == num b) && (den a == den b)) ≡ eq_by_cmp (cross_cmp num den) a b
    same_parts_are_equal a b = same_is a b (cross_cmp num den a b) refl
