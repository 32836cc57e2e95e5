-- How a moment is written: the 26 bytes `YYYY-MM-DDThh:mm:ss.ffffff`.
use Rattle.std.specs.Prelude.{◌≡◌, ℕ, zero, suc, ◌+◌, ◌/◌, ◌%◌, ◌<◌, ◌≤◌, Bool, not, if◌then◌else◌, ℤ, pos, neg_ℤ, ◌-ℤ◌, ◌<ℤ◌, ◌≤ℤ◌, int_lt, unsigned_abs, List, ◌∷◌, ◌++◌}
use Rattle.std.specs.Int.{IsInRange, int_div_euclid, int_rem_euclid}
use Rattle.jiff_core.specs.Calendar.{days_in_month, days_from_civil}
use Rattle.exact_time.specs.MomentText.{point, letter_t, date_text, clock_text, six_digits, civil_micros}
use Rattle.exact_time.specs.declared.reading.CivilTime.{CivilTime}

-- a moment of the years 1800 to 2700: from 1800-01-01T00:00:00 on, and before 2701-01-01T00:00:00
pub record IsWritable (micros : ℤ) : Type 0 where
  pub from : neg_ℤ (pos 5_364_662_400_000_000) ≤ℤ micros
  pub before : micros <ℤ pos 23_068_108_800_000_000

-- a moment of the years 1900 to 2599, which a text may name
pub record IsNameable (micros : ℤ) : Type 0 where
  pub from : neg_ℤ (pos 2_208_988_800_000_000) ≤ℤ micros
  pub before : micros <ℤ pos 19_880_899_200_000_000

-- the numbers are those of a day of the years 1800 to 2700 and of a time of that day
pub record IsCalendarTime (t : CivilTime) : Type 0 where
  pub year_in : IsInRange 1800 2700 t.year
  pub month_in : IsInRange 1 12 t.month
  pub day_in : IsInRange 1 (days_in_month (pos t.year) t.month) t.day
  pub hour : t.hour ≤ 23
  pub minute : t.minute ≤ 59
  pub second : t.second ≤ 59
  pub micros : t.micros < 1_000_000

-- the date, a T, the time of day, a point and six decimals
abbrev pub civil_text : CivilTime → List ℕ
civil_text t =
    date_text t.year t.month t.day ++ letter_t ∷ clock_text t.hour t.minute t.second
    ++ point ∷ six_digits t.micros

-- the text is that of the day and the time of day at which the moment lies
pub record IsWritten (text : List ℕ) (micros : ℤ) : Type 0 where
  pub time : CivilTime
  pub civil : IsCalendarTime time
  pub micros_is : civil_micros time ≡ micros
  pub text_is : text ≡ civil_text time

-- the greatest number up to a bound that passes a test, and 0 where none does
unfoldable pub greatest : (ℕ → Bool) → ℕ → ℕ
greatest test zero = 0
greatest test (suc n) = if test (suc n) then suc n else greatest test n

-- the last year whose 1 January is not after the day, and the last month of it that has begun by then
abbrev pub year_of : ℤ → ℕ
year_of day = greatest (λ year. not (int_lt day (days_from_civil (pos year) 1 1))) 2700

abbrev pub month_of : ℕ → ℤ → ℕ
month_of year day = greatest (λ month. not (int_lt day (days_from_civil (pos year) month 1))) 12

-- the numbers of a day, and of so many microseconds after its midnight
abbrev pub time_on : ℕ → ℕ → ℤ → ℕ → CivilTime
time_on year month day rest = record {
  year = year;
  month = month;
  day = unsigned_abs (day -ℤ days_from_civil (pos year) month 1) + 1;
  hour = rest / 3_600_000_000;
  minute = rest / 60_000_000 % 60;
  second = rest / 1_000_000 % 60;
  micros = rest % 1_000_000;
}

-- the day and the time of day at which a moment of the years 1800 to 2700 lies
unfoldable pub civil_time_of : ℤ → CivilTime
civil_time_of micros =
    let day = int_div_euclid micros (pos 86_400_000_000) in
    let rest = unsigned_abs (int_rem_euclid micros (pos 86_400_000_000)) in
    time_on (year_of day) (month_of (year_of day) day) day rest

-- how a moment is written
unfoldable pub moment_text : ℤ → List ℕ
moment_text micros = civil_text (civil_time_of micros)
