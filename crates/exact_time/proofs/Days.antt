-- The year of a day number, and the one day that has it.
use Rattle.std.proofs.Common.{◌≡◌, ℕ, suc, ◌<◌, arith, rules, ℤ, pos, neg_ℤ, ◌<ℤ◌, ◌≤ℤ◌}
use Rattle.std.proofs.lemmas.Int.{ints, by_lt_z}
use Rattle.jiff_core.specs.declared.civil.date.Date.{Date}
use Rattle.jiff_core.specs.Calendar.{days_from_civil, IsCivilDate}
use Rattle.jiff_core.specs.Date.{epoch_day}
use Rattle.jiff_core.proofs.SignedLemmas.{signed_arith}
use Rattle.jiff_core.proofs.CalendarLemmas.{days_from_civil-day_count, day_count-lt_year, day_count-last_of_year, day_count-next_year}
use Rattle.jiff_core.proofs.DateLemmas.{civil}
use Rattle.exact_time.proofs.Calendar.{new_year_count}

pub day_1800 : days_from_civil (pos 1800) 1 1 ≡ neg_ℤ (pos 62_091)
day_1800 = omega (arith, ints, days_from_civil-day_count (pos 1800) 1 1, new_year_count 1800)

pub day_1900 : days_from_civil (pos 1900) 1 1 ≡ neg_ℤ (pos 25_567)
day_1900 = omega (arith, ints, days_from_civil-day_count (pos 1900) 1 1, new_year_count 1900)

pub day_2600 : days_from_civil (pos 2600) 1 1 ≡ pos 230_103
day_2600 = omega (arith, ints, days_from_civil-day_count (pos 2600) 1 1, new_year_count 2600)

pub day_2701 : days_from_civil (pos 2701) 1 1 ≡ pos 266_992
day_2701 = omega (arith, ints, days_from_civil-day_count (pos 2701) 1 1, new_year_count 2701)

-- a day on or after 1 January is of that year or a later one
pub year_from : (y : ℤ) (d : Date) → days_from_civil y 1 1 ≤ℤ epoch_day d → y ≤ℤ d.year
year_from y d h =
    by_lt_z d.year y (λ lt.
    let before = day_count-lt_year d.year d.month d.day y 1 1 (civil d) (omega arith) lt in
    absurd (omega (arith, signed_arith, before, days_from_civil-day_count y 1 1, days_from_civil-day_count d.year d.month d.day)))
    (λ ge. ge)

-- a day before 1 January is of an earlier year
pub year_before : (y : ℕ) (d : Date) → y < 9999 → epoch_day d <ℤ days_from_civil (pos (suc y)) 1 1 → d.year ≤ℤ pos y
year_before y d small h =
    by_lt_z (pos y) d.year (λ gt.
    let last : IsCivilDate (pos y) 12 31 = ((search (rules, signed_arith), search (rules, signed_arith)), (omega arith, omega arith), (omega arith, omega arith)) in
    let after = day_count-lt_year (pos y) 12 31 d.year d.month d.day last d.day_in.0 gt in
    let next = day_count-next_year (pos y) (pos (suc y)) (search (rules, signed_arith)) (omega (arith, signed_arith)) in
    absurd (omega (arith, signed_arith, after, next, day_count-last_of_year (pos y), days_from_civil-day_count (pos (suc y)) 1 1, days_from_civil-day_count d.year d.month d.day)))
    (λ le. le)
