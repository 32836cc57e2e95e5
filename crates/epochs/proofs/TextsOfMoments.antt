-- Each moment of the years 1900 to 2599 is spelled by some text.
use Rattle.std.proofs.Common.{◌≡◌, inl, inr, ℕ, zero, suc, ◌+◌, ◌/◌, ◌%◌, ◌<◌, ℤ, pos, negsuc, ◌+ℤ◌, ◌*ℤ◌, ◌≤ℤ◌, unsigned_abs, List, refl, ap, subst, ◌∙◌, arith}
use Rattle.std.specs.Int.{IsInRange}
use Rattle.std.proofs.lemmas.Bool.{cases_lt}
use Rattle.std.proofs.lemmas.Int.{ints}
use Rattle.jiff_core.specs.Calendar.{days_in_month, days_from_civil}
use Rattle.jiff_core.proofs.CalendarLemmas.{days_in_month_bounds}
use Rattle.jiff_core.proofs.DateLemmas.{days_from_civil-day, days_from_civil-next_month, days_from_civil-next_year}
use Rattle.exact_time.specs.BTime.{clock_micros}
use Rattle.exact_time.specs.MomentText.{IsMoment, civil_micros}
use Rattle.exact_time.specs.Written.{IsNameable, IsCalendarTime, civil_text}
use Rattle.exact_time.specs.declared.reading.CivilTime.{CivilTime}
use Rattle.exact_time.proofs.Days.{day_1900, day_2600}
use Rattle.exact_time.proofs.WrittenTexts.{names_moment}

-- a day of the calendar, so many days after 1900-01-01
record IsDay (n : ℕ) : Type 0 where
  year : ℕ
  month : ℕ
  day : ℕ
  year_in : IsInRange 1900 2599 year
  month_in : IsInRange 1 12 month
  day_in : IsInRange 1 (days_in_month (pos year) month) day
  count : days_from_civil (pos year) month day +ℤ pos 25_567 ≡ pos n

next_year : (n year : ℕ) → suc n < 255_670 → IsInRange 1900 2599 year → days_from_civil (pos year) 12 31 +ℤ pos 25_567 ≡ pos n → IsDay (suc n)
next_year n year more year_in count =
    let first = days_from_civil-next_year (pos year) (pos (year + 1)) (omega (arith, ints)) (omega (arith, ints)) in
    let after : days_from_civil (pos (year + 1)) 1 1 +ℤ pos 25_567 ≡ pos (suc n) = omega (arith, ints, first, count) in
    elim (cases_lt year 2599) [
      | inl earlier ↦ record { year = year + 1; month = 1; day = 1; year_in = (omega (arith, year_in), omega (arith, earlier)); month_in = (omega arith, omega arith); day_in = (omega arith, omega arith); count = after }
      | inr last ↦
          let same : year + 1 ≡ 2600 = omega (arith, last, year_in) in
          let end = subst (λ (y : ℕ). days_from_civil (pos y) 1 1 +ℤ pos 25_567 ≡ pos (suc n)) same after in
          absurd (omega (arith, ints, end, day_2600, more))
    ]

next_day : (n : ℕ) → suc n < 255_670 → IsDay n → IsDay (suc n)
next_day n more h =
    elim (cases_lt h.day (days_in_month (pos h.year) h.month)) [
      | inl earlier ↦ record {
        year = h.year;
        month = h.month;
        day = h.day + 1;
        year_in = h.year_in;
        month_in = h.month_in;
        day_in = (omega (arith, h.day_in), omega (arith, earlier));
        count = let next = days_from_civil-day (pos h.year) h.month h.day (h.day + 1) h.day_in.0 (omega arith) in omega (arith, ints, h.count, next);
      }
      | inr last ↦
          let end : h.day ≡ days_in_month (pos h.year) h.month = omega (arith, last, h.day_in) in
          elim (cases_lt h.month 12) [
            | inl earlier ↦ record {
              year = h.year;
              month = h.month + 1;
              day = 1;
              year_in = h.year_in;
              month_in = (omega (arith, h.month_in), omega (arith, earlier));
              day_in = (omega arith, let long = days_in_month_bounds (pos h.year) (h.month + 1) in omega (arith, long));
              count = let next = days_from_civil-next_month (pos h.year) h.month h.day h.month_in.0 end in omega (arith, ints, h.count, next);
            }
            | inr december ↦
                let twelve : h.month ≡ 12 = omega (arith, december, h.month_in) in
                let thirty_one : h.day ≡ 31 = end ∙ ap (days_in_month (pos h.year)) twelve in
                next_year n h.year more h.year_in (subst (λ (d : ℕ). days_from_civil (pos h.year) 12 d +ℤ pos 25_567 ≡ pos n) thirty_one (subst (λ (m : ℕ). days_from_civil (pos h.year) m h.day +ℤ pos 25_567 ≡ pos n) twelve h.count))
          ]
    ]

day_of : (n : ℕ) → n < 255_670 → IsDay n
day_of zero more = record { year = 1900; month = 1; day = 1; year_in = (omega arith, omega arith); month_in = (omega arith, omega arith); day_in = (omega arith, omega arith); count = omega (arith, ints, day_1900) }
day_of (suc n) more = next_day n more (day_of n (omega (arith, more)))

as_natural : (z : ℤ) → pos 0 ≤ℤ z → z ≡ pos (unsigned_abs z)
as_natural (pos n) h = refl
as_natural (negsuc n) h = absurd (omega (arith, ints, h))

micros_are : (day micros : ℤ) (k n rest : ℕ) → day +ℤ pos 25_567 ≡ pos n → micros +ℤ pos 2_208_988_800_000_000 ≡ pos k → n ≡ k / 86_400_000_000 → rest ≡ k % 86_400_000_000
    → day *ℤ pos 86_400_000_000 +ℤ pos rest ≡ micros
micros_are day micros k n rest a b c d = omega (arith, ints)

clock_of : (rest : ℕ) → clock_micros (rest / 3_600_000_000) (rest / 60_000_000 % 60) (rest / 1_000_000 % 60) (rest % 1_000_000) ≡ rest
clock_of rest = omega arith

spelled_on : (micros : ℤ) (k : ℕ) → IsNameable micros → micros +ℤ pos 2_208_988_800_000_000 ≡ pos k → k < 22_089_888_000_000_000 → (text : List ℕ) × IsMoment text micros
spelled_on micros k nameable e below =
    let day = day_of (k / 86_400_000_000) (omega (arith, below)) in
    let rest = k % 86_400_000_000 in
    let within : rest < 86_400_000_000 = omega arith in
    let t : CivilTime = record { year = day.year; month = day.month; day = day.day; hour = rest / 3_600_000_000; minute = rest / 60_000_000 % 60; second = rest / 1_000_000 % 60; micros = rest % 1_000_000 } in
    let civil : IsCalendarTime t = record {
      year_in = (omega (arith, day.year_in), omega (arith, day.year_in));
      month_in = day.month_in;
      day_in = day.day_in;
      hour = omega (arith, within);
      minute = omega arith;
      second = omega arith;
      micros = omega arith;
    } in
    let same : civil_micros t ≡ micros =
    ap (λ (c : ℕ). days_from_civil (pos day.year) day.month day.day *ℤ pos 86_400_000_000 +ℤ pos c) (clock_of rest)
    ∙ micros_are (days_from_civil (pos day.year) day.month day.day) micros k (k / 86_400_000_000) rest day.count e refl refl in
    (civil_text t, names_moment t micros civil same nameable)

pub text_of_moment : (micros : ℤ) → IsNameable micros → (text : List ℕ) × IsMoment text micros
text_of_moment micros h =
    let whole = micros +ℤ pos 2_208_988_800_000_000 in
    let least : pos 0 ≤ℤ whole = omega (arith, ints, h.from) in
    let e = as_natural whole least in
    spelled_on micros (unsigned_abs whole) h e (omega (arith, ints, e, h.before))
