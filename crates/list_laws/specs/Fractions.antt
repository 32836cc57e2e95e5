-- Fractions in the order of their values.
use Rattle.std.specs.Prelude.{ℕ, ◌*◌}
use Rattle.std.specs.Ordering.{nat_cmp}
use Rattle.std.specs.declared.cmp.Ordering.{Ordering}

-- by cross multiplication of numerators and divisors
abbrev pub cross_cmp : {K : Type 0} → (num den : K → ℕ) → K → K → Ordering
cross_cmp num den a b = nat_cmp (num a * den b) (num b * den a)
