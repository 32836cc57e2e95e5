-- Sample rates as exact fractions (SEED 2.4, fixed section of data header, fields 10 and 11).
use Rattle.std.specs.Prelude.{◌≡◌, ℕ, ◌*◌, ℤ, pos, negsuc, suc}
use Rattle.std.specs.Int.{IsGcd}

-- num / den has no common divisor, and zero is 0/1
abbrev pub IsLowest : ℕ → ℕ → Type 0
IsLowest num den = IsGcd num den 1

-- samples per second by factor and multiplier, as a fraction that may have common divisors
abbrev pub seed_rate : ℤ → ℤ → ℕ × ℕ
seed_rate (pos f) (pos m) = (f * m, 1)
seed_rate (pos f) (negsuc m) = (f, suc m)
seed_rate (negsuc f) (pos m) = (m, suc f)
seed_rate (negsuc f) (negsuc m) = (1, suc f * suc m)

-- the fraction num / den has this value
abbrev pub IsFraction : ℕ → ℕ → ℕ × ℕ → Type 0
IsFraction num den f = num * f.1 ≡ f.0 * den
