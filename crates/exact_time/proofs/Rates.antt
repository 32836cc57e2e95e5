-- A fraction has one form in lowest terms, so a rate is determined by its value.
use Rattle.std.proofs.Common.{◌≡◌, ℕ, suc, ◌*◌, ◌<◌, ◌≤◌, suc-mul, arith, sym, subst, pos, negsuc, ℤ}
use Rattle.std.proofs.lemmas.Map.Lookups.{CmpEqualImpliesEq}
use Rattle.list_laws.proofs.Crossed.{same_parts}
use Rattle.list_laws.proofs.LowestTerms.{one_form}
use Rattle.exact_time.specs.RateOrder.{rate_cmp}
use Rattle.exact_time.specs.Rate.{IsLowest, IsFraction, seed_rate}
use Rattle.exact_time.specs.declared.ratio.Ratio.{Ratio}
use Rattle.std.specs.Coded.{le_prop}
use mathlib.Core.HLevel.{is_prop→PathP}

some_product : (a b : ℕ) → 0 < suc a * suc b
some_product a b = subst (λ (x : ℕ). 0 < x) (sym (suc-mul a (suc b))) (omega arith)

divisor_some : (f m : ℤ) → 0 < (seed_rate f m).1
divisor_some (pos f) (pos m) = omega arith
divisor_some (pos f) (negsuc m) = omega arith
divisor_some (negsuc f) (pos m) = omega arith
divisor_some (negsuc f) (negsuc m) = some_product f m

-- a rate is its two numbers
pub same_rate : (r s : Ratio) → r.num ≡ s.num → r.den ≡ s.den → r ≡ s
same_rate r s num den = λ i. record {
  num = num i;
  den = den i;
  num_in = is_prop→PathP (λ j. num j ≤ 1_073_741_824) (λ j. le_prop) r.num_in s.num_in i;
  den_in = is_prop→PathP (λ j. den j ≤ 1_073_741_824) (λ j. le_prop) r.den_in s.den_in i;
  above = is_prop→PathP (λ j. 0 < den j) (λ j. le_prop) r.above s.above i;
  lowest = is_prop→PathP (λ j. IsLowest (num j) (den j)) (λ j. hlevel) r.lowest s.lowest i;
}

-- a factor and a multiplier have one rate
pub one_rate : (f m : ℤ) (r s : Ratio) → IsFraction r.num r.den (seed_rate f m) → IsFraction s.num s.den (seed_rate f m) → r ≡ s
one_rate f m r s e k =
    let same = one_form r.num r.den s.num s.den (seed_rate f m).0 (seed_rate f m).1 (divisor_some f m) r.above s.above r.lowest s.lowest e k in
    same_rate r s same.0 same.1

-- rates that stand equal are one
pub exact_rates : CmpEqualImpliesEq rate_cmp
exact_rates a b h =
    let same = same_parts (λ (r : Ratio). r.num) (λ r. r.den) (λ r. r.above) (λ r. r.lowest) a b h in
    same_rate a b same.0 same.1
