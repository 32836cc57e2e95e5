-- How a moment is spelt (FDSN Web Service Specifications 1.2, time values): `YYYY-MM-DD`, or
-- `YYYY-MM-DDThh:mm:ss` with a point and 1 to 6 decimals if wanted, and a final Z if wanted.
use Rattle.std.specs.Prelude.{◌≡◌, ℕ, ◌+◌, ◌-◌, ◌/◌, ◌%◌, ◌==◌, ◌<◌, ◌≤◌, ℤ, pos, ◌+ℤ◌, ◌*ℤ◌, List, [], ◌∷◌, ◌++◌, length, take, drop, replicate, slice_index, if◌then◌else◌}
use Rattle.std.specs.Int.{IsInRange}
use Rattle.jiff_core.specs.Calendar.{days_in_month, days_from_civil}
use Rattle.exact_time.specs.BTime.{clock_micros}
use Rattle.exact_time.specs.declared.moment.TimeFault.{TimeFault}
use Rattle.exact_time.specs.declared.moment.TimeFault.TheVariants.{Form, Range}
use Rattle.exact_time.specs.declared.reading.CivilTime.{CivilTime}

-- the characters of the two forms
abbrev pub zero_digit : ℕ
zero_digit = 48

abbrev pub hyphen : ℕ
hyphen = 45

abbrev pub colon : ℕ
colon = 58

abbrev pub point : ℕ
point = 46

abbrev pub letter_t : ℕ
letter_t = 84

abbrev pub letter_z : ℕ
letter_z = 90

-- the two decimal digits of a number below 100
abbrev pub two_digits : ℕ → List ℕ
two_digits n = (zero_digit + n / 10) ∷ (zero_digit + n % 10) ∷ []

-- the six decimal digits of a number below 1,000,000
abbrev pub six_digits : ℕ → List ℕ
six_digits n = two_digits (n / 10_000) ++ two_digits (n / 100 % 100) ++ two_digits (n % 100)

abbrev pub date_text : ℕ → ℕ → ℕ → List ℕ
date_text year month day =
    two_digits (year / 100) ++ two_digits (year % 100)
    ++ hyphen ∷ two_digits month ++ hyphen ∷ two_digits day

abbrev pub clock_text : ℕ → ℕ → ℕ → List ℕ
clock_text hour minute second = two_digits hour ++ colon ∷ two_digits minute ++ colon ∷ two_digits second

-- the two digits at a place give the number
pub record IsTwoAt (text : List ℕ) (at n : ℕ) : Type 0 where
  pub below : n < 100
  pub tens : slice_index text at ≡ zero_digit + n / 10
  pub ones : slice_index text (at + 1) ≡ zero_digit + n % 10

-- the text is the six digits of the number
pub record IsSixDigits (text : List ℕ) (n : ℕ) : Type 0 where
  pub below : n < 1_000_000
  pub text_is : text ≡ six_digits n

-- the text spells these numbers, which need not be a date
pub record IsDateText (text : List ℕ) (year month day : ℕ) : Type 0 where
  pub year_in : year < 10_000
  pub month_in : month < 100
  pub day_in : day < 100
  pub text_is : text ≡ date_text year month day

-- the text spells these numbers, which need not be a time of day
pub record IsClockText (text : List ℕ) (hour minute second : ℕ) : Type 0 where
  pub hour_in : hour < 100
  pub minute_in : minute < 100
  pub second_in : second < 100
  pub text_is : text ≡ clock_text hour minute second

-- nothing, or a point and 1 to 6 digits, which with zeros up to six are the microseconds
abbrev pub IsDecimals : List ℕ → ℕ → Type 0
IsDecimals [] micros = micros ≡ 0
IsDecimals (c ∷ digits) micros =
    (c ≡ point) × (1 ≤ length digits) × (length digits ≤ 6)
    × IsSixDigits (digits ++ replicate (6 - length digits) zero_digit) micros

-- a final Z says nothing
abbrev pub without_zulu : List ℕ → List ℕ
without_zulu text =
    if slice_index text (length text - 1) == letter_z then take (length text - 1) text else text

-- what follows a date: nothing, which is midnight, or T and a time of day
abbrev pub IsTimeOfDay : List ℕ → ℕ → ℕ → ℕ → ℕ → Type 0
IsTimeOfDay [] hour minute second micros = (hour ≡ 0) × (minute ≡ 0) × (second ≡ 0) × (micros ≡ 0)
IsTimeOfDay (c ∷ text) hour minute second micros =
    (c ≡ letter_t) × IsClockText (take 8 text) hour minute second
    × IsDecimals (without_zulu (drop 8 text)) micros

-- the text is of one of the two forms, and has these numbers
pub record IsMomentText (text : List ℕ) (t : CivilTime) : Type 0 where
  pub date : IsDateText (take 10 text) t.year t.month t.day
  pub time : IsTimeOfDay (drop 10 text) t.hour t.minute t.second t.micros

-- a day of the years that a text may name
pub record IsMomentDate (year month day : ℕ) : Type 0 where
  pub year_in : IsInRange 1900 2599 year
  pub month_in : IsInRange 1 12 month
  pub day_in : IsInRange 1 (days_in_month (pos year) month) day

-- the numbers are those of a day and of a time of that day
pub record IsCivil (t : CivilTime) : Type 0 where
  pub date : IsMomentDate t.year t.month t.day
  pub hour : t.hour ≤ 23
  pub minute : t.minute ≤ 59
  pub second : t.second ≤ 59

-- microseconds from 1970-01-01 to the start of the day
abbrev pub date_micros : ℕ → ℕ → ℕ → ℤ
date_micros year month day = days_from_civil (pos year) month day *ℤ pos 86_400_000_000

-- microseconds since 1970-01-01T00:00:00
abbrev pub civil_micros : CivilTime → ℤ
civil_micros t = date_micros t.year t.month t.day +ℤ pos (clock_micros t.hour t.minute t.second t.micros)

-- the text names the moment of so many microseconds
abbrev pub IsMoment : List ℕ → ℤ → Type 0
IsMoment text micros = (t : CivilTime) × IsMomentText text t × IsCivil t × (micros ≡ civil_micros t)

-- why a text names no moment: it is of neither form, or there is no such day or time of day
abbrev pub RefusesMoment : List ℕ → TimeFault → Type 0
RefusesMoment text Form = (t : CivilTime) → ¬ (IsMomentText text t)
RefusesMoment text Range = (t : CivilTime) × IsMomentText text t × (¬ (IsCivil t))
