-- The time of a record's header (SEED 2.4, chapter 3, BTIME).
use Rattle.std.specs.Prelude.{ℕ, ◌+◌, ◌-◌, ◌*◌, ◌≤◌, ℤ, pos, ◌+ℤ◌, ◌*ℤ◌}
use Rattle.std.specs.Int.{IsInRange}
use Rattle.jiff_core.specs.Calendar.{days_in_year, days_from_civil}
use Rattle.exact_time.specs.declared.fields.BTime.{BTime}

-- the fields are those of some day and time of day; second 60 is allowed
pub record IsBTime (b : BTime) : Type 0 where
  pub day : IsInRange 1 (days_in_year (pos b.year)) b.day
  pub hour : b.hour ≤ 23
  pub minute : b.minute ≤ 59
  pub second : b.second ≤ 60
  pub fraction : b.fraction ≤ 9999

-- microseconds since midnight, of which `rest` are behind the second
abbrev pub clock_micros : ℕ → ℕ → ℕ → ℕ → ℕ
clock_micros hour minute second rest = ((hour * 60 + minute) * 60 + second) * 1_000_000 + rest

-- days from 1970-01-01 to the day with that number in the year
abbrev pub day_number : ℕ → ℕ → ℤ
day_number year day = days_from_civil (pos year) 1 1 +ℤ pos (day - 1)

-- microseconds since 1970-01-01T00:00:00
abbrev pub btime_micros : BTime → ℤ
btime_micros b =
    day_number b.year b.day *ℤ pos 86_400_000_000
    +ℤ pos (clock_micros b.hour b.minute b.second (b.fraction * 100))
