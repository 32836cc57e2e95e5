-- The days of a report, by their numbers from 0.
use Rattle.std.specs.Prelude.{◌≡◌, ℕ, zero, suc, ◌+◌, ◌-◌, ◌*◌, ◌≤◌, ℤ, pos, ◌+ℤ◌, ◌*ℤ◌, ◌<ℤ◌, List, [], ◌∷◌}

-- so many numbers from one on
abbrev pub numbers_from : ℕ → ℕ → List ℕ
numbers_from i zero = []
numbers_from i (suc n) = i ∷ numbers_from (i + 1) n

-- where the day of a number begins, in microseconds since 1970, if day 0 begins at `first`
abbrev pub day_at : ℤ → ℕ → ℤ
day_at first day = first +ℤ pos (day * 86_400_000_000)

-- Days of which a report can be made: 1 to 3660, from the beginning of one on, and the last of them is before the
-- year 2600.
pub record AreDays (first : ℤ) (days : ℕ) : Type 0 where
  pub number : ℤ
  pub begins : first ≡ number *ℤ pos 86_400_000_000
  pub some : 1 ≤ days
  pub few : days ≤ 3660
  pub before_2600 : day_at first (days - 1) <ℤ pos 19_880_899_200_000_000
