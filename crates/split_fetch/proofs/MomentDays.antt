-- Each moment of the years 1900 to 2599 is a time of a day of the calendar, so it is written, and read back.
use Rattle.std.proofs.Common.{◌≡◌, ℕ, zero, suc, ◌+◌, ◌/◌, ◌%◌, ◌<◌, ◌≤◌, sym, ap, ◌∙◌, subst, arith, ℤ, pos, neg_ℤ, ◌+ℤ◌, ◌*ℤ◌, ◌≤ℤ◌, ◌<ℤ◌, unsigned_abs, inl, inr}
use Rattle.std.specs.Int.{int_div_euclid, int_rem_euclid}
use Rattle.std.specs.Str.{IsAscii}
use Rattle.std.proofs.lemmas.Bool.{cases_lt}
use Rattle.std.proofs.lemmas.Int.{ints}
use Rattle.jiff_core.specs.Calendar.{days_in_month, days_from_civil}
use Rattle.jiff_core.specs.declared.civil.date.Date.{Date}
use Rattle.jiff_core.proofs.CalendarLemmas.{days_in_month_bounds}
use Rattle.jiff_core.proofs.DateLemmas.{days_from_civil-day, days_from_civil-next_month, days_from_civil-next_year}
use Rattle.jiff_core.proofs.SignedLemmas.{signed_arith, int_div_euclid-parts, int_rem_euclid-parts}
use Rattle.exact_time.specs.BTime.{clock_micros}
use Rattle.exact_time.specs.MomentText.{IsMoment, civil_micros}
use Rattle.exact_time.specs.Written.{IsNameable, IsCalendarTime, moment_text}
use Rattle.exact_time.specs.declared.reading.CivilTime.{CivilTime}
use Rattle.exact_time.proofs.Days.{day_1900, day_2600, year_before}
use Rattle.exact_time.proofs.MomentTexts.{moment_text_is, moment_text_names}
use Rattle.exact_time.proofs.WrittenTexts.{ascii_civil, year_fits}

-- a day of the calendar from 1900 to 2600
record IsDay (day : ℤ) : Type 0 where
  year : ℕ
  month : ℕ
  number : ℕ
  from : 1900 ≤ year
  to : year ≤ 2600
  month_low : 1 ≤ month
  month_high : month ≤ 12
  number_low : 1 ≤ number
  number_high : number ≤ days_in_month (pos year) month
  day_is : days_from_civil (pos year) month number ≡ day

first_day : IsDay (neg_ℤ (pos 25_567))
first_day = record {
  year = 1900;
  month = 1;
  number = 1;
  from = omega arith;
  to = omega arith;
  month_low = omega arith;
  month_high = omega arith;
  number_low = omega arith;
  number_high = (let e = (days_in_month_bounds (pos 1900) 1).1 in omega (arith, e));
  day_is = day_1900;
}

module _ (day next : ℤ) (after : next ≡ day +ℤ pos 1) (before : day <ℤ pos 230_103) (d : IsDay day) where
  abbrev date : Date
  date = record {
    year = pos d.year;
    month = d.month;
    day = d.number;
    year_in = year_fits d.year (let h = d.to in omega (arith, h));
    month_in = (d.month_low, d.month_high);
    day_in = (d.number_low, d.number_high);
  }

  -- the year isn't the last one
  year_left : d.year ≤ 2599
  year_left =
      let early : days_from_civil (pos d.year) d.month d.number <ℤ days_from_civil (pos 2600) 1 1 =
      subst (λ (z : ℤ). z <ℤ days_from_civil (pos 2600) 1 1) (sym d.day_is) (subst (λ (z : ℤ). day <ℤ z) (sym day_2600) before) in
      let high : pos d.year ≤ℤ pos 2599 = year_before 2599 date (omega arith) early in
      omega (arith, ints, high)

  same_month : d.number + 1 ≤ days_in_month (pos d.year) d.month → IsDay next
  same_month within = record {
    year = d.year;
    month = d.month;
    number = d.number + 1;
    from = d.from;
    to = d.to;
    month_low = d.month_low;
    month_high = d.month_high;
    number_low = omega arith;
    number_high = within;
    day_is = (
        let e = days_from_civil-day (pos d.year) d.month d.number (d.number + 1) d.number_low (omega arith) in
        let is = d.day_is in
        omega (arith, ints, e, is, after));
  }

  next_month : d.number ≡ days_in_month (pos d.year) d.month → d.month < 12 → IsDay next
  next_month last left = record {
    year = d.year;
    month = d.month + 1;
    number = 1;
    from = d.from;
    to = d.to;
    month_low = omega arith;
    month_high = omega (arith, left);
    number_low = omega arith;
    number_high = (let e = (days_in_month_bounds (pos d.year) (d.month + 1)).1 in omega (arith, e));
    day_is = days_from_civil-next_month (pos d.year) d.month d.number d.month_low last ∙ ap (λ (z : ℤ). z +ℤ pos 1) d.day_is ∙ sym after;
  }

  next_year : d.number ≡ days_in_month (pos d.year) d.month → d.month ≡ 12 → IsDay next
  next_year last december =
      let thirty_one : d.number ≡ 31 = last ∙ ap (days_in_month (pos d.year)) december in
      let e : days_from_civil (pos (d.year + 1)) 1 1 ≡ days_from_civil (pos d.year) 12 31 +ℤ pos 1 =
      days_from_civil-next_year (pos d.year) (pos (d.year + 1)) (omega (arith, ints)) (omega (arith, ints)) in
      let there : days_from_civil (pos d.year) 12 31 ≡ day = (λ i. days_from_civil (pos d.year) (sym december i) (sym thirty_one i))
      ∙ d.day_is in
      record {
        year = d.year + 1;
        month = 1;
        number = 1;
        from = (let h = d.from in omega (arith, h));
        to = (let h = year_left in omega (arith, h));
        month_low = omega arith;
        month_high = omega arith;
        number_low = omega arith;
        number_high = (let k = (days_in_month_bounds (pos (d.year + 1)) 1).1 in omega (arith, k));
        day_is = e ∙ ap (λ (z : ℤ). z +ℤ pos 1) there ∙ sym after;
      }

  next_day : IsDay next
  next_day =
      elim (cases_lt d.number (days_in_month (pos d.year) d.month)) [
        | inl less ↦ same_month (omega (arith, less))
        | inr reached ↦
            let most = d.number_high in
            let last : d.number ≡ days_in_month (pos d.year) d.month = omega (arith, reached, most) in
            elim (cases_lt d.month 12) [
              | inl left ↦ next_month last left
              | inr over ↦ next_year last (let high = d.month_high in omega (arith, over, high))
            ]
      ]

days_on : (n : ℕ) → n < 255_670 → IsDay (neg_ℤ (pos 25_567) +ℤ pos n)
days_on zero h = subst IsDay (omega (arith, ints)) first_day
days_on (suc n) h =
    next_day (neg_ℤ (pos 25_567) +ℤ pos n) (neg_ℤ (pos 25_567) +ℤ pos (suc n)) (omega (arith, ints)) (omega (arith, ints, h))
    (days_on n (omega (arith, h)))

some_day : (day : ℤ) → neg_ℤ (pos 25_567) ≤ℤ day → day <ℤ pos 230_103 → IsDay day
some_day day low high =
    let n = unsigned_abs (day +ℤ pos 25_567) in
    let is : neg_ℤ (pos 25_567) +ℤ pos n ≡ day = omega (arith, ints, low) in
    subst IsDay is (days_on n (omega (arith, ints, low, high)))

abbrev time_of : (day : ℤ) → IsDay day → ℕ → CivilTime
time_of day d rest = record {
  year = d.year;
  month = d.month;
  day = d.number;
  hour = rest / 3_600_000_000;
  minute = rest / 60_000_000 % 60;
  second = rest / 1_000_000 % 60;
  micros = rest % 1_000_000;
}

clock_is : (rest : ℕ) → clock_micros (rest / 3_600_000_000) (rest / 60_000_000 % 60) (rest / 1_000_000 % 60) (rest % 1_000_000) ≡ rest
clock_is rest = omega arith

is_time : (day : ℤ) (d : IsDay day) (rest : ℕ) → rest < 86_400_000_000 → IsCalendarTime (time_of day d rest)
is_time day d rest small = record {
  year_in = (let h = d.from in omega (arith, h), let h = d.to in omega (arith, h));
  month_in = (d.month_low, d.month_high);
  day_in = (d.number_low, d.number_high);
  hour = omega (arith, small);
  minute = omega arith;
  second = omega arith;
  micros = omega arith;
}

micros_of : (day : ℤ) (d : IsDay day) (rest : ℕ) (micros : ℤ) → day *ℤ pos 86_400_000_000 +ℤ pos rest ≡ micros
    → civil_micros (time_of day d rest) ≡ micros
micros_of day d rest micros whole =
    ap (λ (z : ℤ). z *ℤ pos 86_400_000_000 +ℤ pos (clock_micros (rest / 3_600_000_000) (rest / 60_000_000 % 60) (rest / 1_000_000 % 60)
    (rest % 1_000_000))) d.day_is
    ∙ ap (λ (n : ℕ). day *ℤ pos 86_400_000_000 +ℤ pos n) (clock_is rest)
    ∙ whole

-- a moment has a time of the calendar
pub record HasTime (micros : ℤ) : Type 0 where
  pub time : CivilTime
  pub is_time : IsCalendarTime time
  pub micros_is : civil_micros time ≡ micros

pub has_time : (micros : ℤ) → IsNameable micros → HasTime micros
has_time micros h =
    let day = int_div_euclid micros (pos 86_400_000_000) in
    let rest = unsigned_abs (int_rem_euclid micros (pos 86_400_000_000)) in
    let q = int_div_euclid-parts micros 86_400_000_000 (omega arith) in
    let r = int_rem_euclid-parts micros 86_400_000_000 (omega arith) in
    let from = h.from in
    let to = h.before in
    let small : rest < 86_400_000_000 = omega (arith, signed_arith, q, r) in
    let whole : day *ℤ pos 86_400_000_000 +ℤ pos rest ≡ micros = omega (arith, signed_arith, q, r) in
    let d = some_day day (omega (arith, signed_arith, whole, small, from)) (omega (arith, signed_arith, whole, small, to)) in
    record {
      time = time_of day d rest;
      is_time = is_time day d rest small;
      micros_is = micros_of day d rest micros whole;
    }

pub written_ascii : (micros : ℤ) → IsNameable micros → IsAscii (moment_text micros)
written_ascii micros h =
    let t = has_time micros h in
    subst IsAscii (sym (moment_text_is t.time micros t.is_time t.micros_is)) (ascii_civil t.time t.is_time)

pub written_reads : (micros : ℤ) → IsNameable micros → IsMoment (moment_text micros) micros
written_reads micros h = let t = has_time micros h in moment_text_names t.time micros t.is_time t.micros_is h
