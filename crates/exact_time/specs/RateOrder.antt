-- Rates in the order of their values.
use Rattle.std.specs.Prelude.{◌≡◌, ◌==◌, ◌&&◌, Bool, Some}
use Rattle.std.specs.Cmp.{IsTotalOrder, IsPartialOrder, po}
use Rattle.std.specs.Ordering.{eq_by_cmp}
use Rattle.std.specs.declared.cmp.Ordering.{Ordering}
use Rattle.list_laws.specs.Fractions.{cross_cmp}
use Rattle.list_laws.proofs.Crossed.{cross_total, same_parts_are_equal}
use Rattle.exact_time.specs.declared.ratio.Ratio.{Ratio}

-- a smaller rate stands first: the numerators are compared, each multiplied by the divisor of the other
abbrev pub rate_cmp : Ratio → Ratio → Ordering
rate_cmp = cross_cmp (λ r. r.num) (λ r. r.den)

abbrev pub is_same_rate : Ratio → Ratio → Bool
is_same_rate a b = (a.num == b.num) && (a.den == b.den)

pub rates_total : IsTotalOrder rate_cmp
rates_total = cross_total (λ (r : Ratio). r.num) (λ r. r.den) (λ r. r.above)

-- rates in lowest terms that stand equal have the same numbers
pub rates_tied : (a b : Ratio) → is_same_rate a b ≡ eq_by_cmp rate_cmp a b
rates_tied = same_parts_are_equal (λ (r : Ratio). r.num) (λ r. r.den) (λ r. r.above) (λ r. r.lowest)

pub rates_partial : IsPartialOrder is_same_rate (λ a b. Some (rate_cmp a b))
rates_partial = po rates_total rates_tied
