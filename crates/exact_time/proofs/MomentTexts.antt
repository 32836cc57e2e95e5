-- The day and the time of day of a moment, as `civil_time_of` finds them.
use Rattle.std.proofs.Common.{◌≡◌, inl, inr, ℕ, zero, suc, ◌+◌, ◌/◌, ◌%◌, ◌<◌, ◌≤◌, Bool, true, false, not, if◌then◌else◌, int_lt, unsigned_abs, List, [], ◌∷◌, drop, arith, ap, sym, subst, ◌∙◌, ℤ, pos, neg_ℤ, rules, ◌+ℤ◌, ◌-ℤ◌, ◌*ℤ◌, ◌<ℤ◌, ◌≤ℤ◌}
use Rattle.std.specs.Int.{int_div_euclid, int_rem_euclid}
use Rattle.std.proofs.lemmas.Int.{ints}
use Rattle.std.proofs.lemmas.Bool.{cases_lt}
use Rattle.jiff_core.specs.Calendar.{days_from_civil, IsCivilDate}
use Rattle.jiff_core.proofs.SignedLemmas.{signed_arith, int_div_euclid-parts, int_rem_euclid-parts, one_part}
use Rattle.jiff_core.proofs.CalendarLemmas.{days_from_civil-day_count, day_count-lt_year, day_count-lt_month, day_count-last_of_year, day_count-day, day_count-day_of_year}
use Rattle.exact_time.specs.BTime.{clock_micros}
use Rattle.exact_time.specs.MomentText.{civil_micros, without_zulu, IsDecimals, IsTimeOfDay, IsMoment}
use Rattle.exact_time.specs.declared.reading.CivilTime.{CivilTime}
use Rattle.exact_time.proofs.Calendar.{new_year_count}
use Rattle.exact_time.proofs.WrittenTexts.{clock_bound, year_fits, one_written, names_moment}
use Rattle.exact_time.specs.Written.{IsCalendarTime, IsNameable, IsWritable, IsWritten, civil_text, greatest, year_of, month_of, time_on, civil_time_of, moment_text}

greatest_is : (test : ℕ → Bool) (n k : ℕ) → k ≤ n → test k ≡ true → ((j : ℕ) → k < j → j ≤ n → test j ≡ false) → greatest test n ≡ k
unfolding greatest
greatest_is test zero k within passes above = omega arith
greatest_is test (suc n) k within passes above =
    elim (cases_lt k (suc n)) [
      | inl lt ↦ ap (λ (b : Bool). if b then suc n else greatest test n) (above (suc n) lt (omega arith)) ∙ greatest_is test n k (omega arith) passes (λ j h w. above j h (omega arith))
      | inr ge ↦
          let same : k ≡ suc n = omega arith in
          ap (λ (b : Bool). if b then suc n else greatest test n) (subst (λ (x : ℕ). test x ≡ true) same passes) ∙ sym same
    ]

begun : (day first : ℤ) → first ≤ℤ day → not (int_lt day first) ≡ true
begun day first h = grind (arith, ints)

not_begun : (day first : ℤ) → day <ℤ first → not (int_lt day first) ≡ false
not_begun day first h = grind (arith, ints)

year_is : (y m d : ℕ) → IsCivilDate (pos y) m d → y ≤ 2700 → year_of (days_from_civil (pos y) m d) ≡ y
year_is y m d civil within =
    let day = days_from_civil (pos y) m d in
    let first : days_from_civil (pos y) 1 1 ≤ℤ day =
    omega (arith, signed_arith, civil.2, day_count-day_of_year (pos y) m d civil.2.0, days_from_civil-day_count (pos y) 1 1, days_from_civil-day_count (pos y) m d) in
    greatest_is (λ year. not (int_lt day (days_from_civil (pos year) 1 1))) 2700 y within (begun day _ first) (λ j later low.
    let after = day_count-lt_year (pos y) m d (pos j) 1 1 civil (omega arith) (omega (arith, signed_arith)) in
    not_begun day _ (omega (arith, signed_arith, after, days_from_civil-day_count (pos j) 1 1, days_from_civil-day_count (pos y) m d)))

month_is : (y m d : ℕ) → IsCivilDate (pos y) m d → month_of y (days_from_civil (pos y) m d) ≡ m
month_is y m d civil =
    let day = days_from_civil (pos y) m d in
    let first : days_from_civil (pos y) m 1 ≤ℤ day =
    omega (arith, signed_arith, civil.2, day_count-day (pos y) m d 1 civil.2.0 (omega arith), days_from_civil-day_count (pos y) m 1, days_from_civil-day_count (pos y) m d) in
    greatest_is (λ month. not (int_lt day (days_from_civil (pos y) month 1))) 12 m civil.1.1 (begun day _ first) (λ j later low.
    let after = day_count-lt_month (pos y) m d j 1 civil (omega arith) later in
    not_begun day _ (omega (arith, signed_arith, after, days_from_civil-day_count (pos y) j 1, days_from_civil-day_count (pos y) m d)))

day_is : (y m d : ℕ) → 1 ≤ d → unsigned_abs (days_from_civil (pos y) m d -ℤ days_from_civil (pos y) m 1) + 1 ≡ d
day_is y m d some =
    let part = one_part (days_from_civil (pos y) m d -ℤ days_from_civil (pos y) m 1) in
    omega (arith, signed_arith, part, day_count-day (pos y) m d 1 some (omega arith), days_from_civil-day_count (pos y) m 1, days_from_civil-day_count (pos y) m d)

parts : (day : ℤ) (rest : ℕ) → rest < 86_400_000_000 → (int_div_euclid (day *ℤ pos 86_400_000_000 +ℤ pos rest) (pos 86_400_000_000) ≡ day) × (unsigned_abs (int_rem_euclid (day *ℤ pos 86_400_000_000 +ℤ pos rest) (pos 86_400_000_000)) ≡ rest)
parts day rest small =
    let z = day *ℤ pos 86_400_000_000 +ℤ pos rest in
    let q = int_div_euclid-parts z 86_400_000_000 (omega arith) in
    let r = int_rem_euclid-parts z 86_400_000_000 (omega arith) in
    (omega (arith, signed_arith, q), omega (arith, signed_arith, q, r))

clock_is : (h m s n : ℕ) → h ≤ 23 → m ≤ 59 → s ≤ 59 → n < 1_000_000 → (clock_micros h m s n / 3_600_000_000 ≡ h) × (clock_micros h m s n / 60_000_000 % 60 ≡ m) × (clock_micros h m s n / 1_000_000 % 60 ≡ s) × (clock_micros h m s n % 1_000_000 ≡ n)
clock_is h m s n h_in m_in s_in n_in = (omega arith, omega arith, omega arith, omega arith)

numbers_are : (t : CivilTime) → IsCalendarTime t
    → (let day = days_from_civil (pos t.year) t.month t.day in time_on (year_of day) (month_of (year_of day) day) day (clock_micros t.hour t.minute t.second t.micros)) ≡ t
numbers_are t h =
    let day = days_from_civil (pos t.year) t.month t.day in
    let rest = clock_micros t.hour t.minute t.second t.micros in
    let civil : IsCivilDate (pos t.year) t.month t.day = (year_fits t.year h.year_in.1, h.month_in, h.day_in) in
    let year = year_is t.year t.month t.day civil h.year_in.1 in
    let month = month_is t.year t.month t.day civil in
    let day_path = day_is t.year t.month t.day h.day_in.0 in
    let clock = clock_is t.hour t.minute t.second t.micros h.hour h.minute h.second h.micros in
    ap (λ (y : ℕ). time_on y (month_of y day) day rest) year
    ∙ ap (λ (m : ℕ). time_on t.year m day rest) month
    ∙ (λ i. record { year = t.year; month = t.month; day = day_path i; hour = clock.0 i; minute = clock.1 i; second = clock.2 i; micros = clock.3 i })

-- the day and the time of day that a moment has are those that are found
pub civil_time_is : (t : CivilTime) (micros : ℤ) → IsCalendarTime t → civil_micros t ≡ micros → civil_time_of micros ≡ t
unfolding civil_time_of
civil_time_is t micros h e =
    let day = days_from_civil (pos t.year) t.month t.day in
    let rest = clock_micros t.hour t.minute t.second t.micros in
    let p = parts day rest (clock_bound t.hour t.minute t.second t.micros h.hour h.minute h.second h.micros) in
    ap civil_time_of (sym e)
    ∙ ap (λ (d : ℤ). time_on (year_of d) (month_of (year_of d) d) d (unsigned_abs (int_rem_euclid (civil_micros t) (pos 86_400_000_000)))) p.0
    ∙ ap (λ (r : ℕ). time_on (year_of day) (month_of (year_of day) day) day r) p.1
    ∙ numbers_are t h

pub moment_text_is : (t : CivilTime) (micros : ℤ) → IsCalendarTime t → civil_micros t ≡ micros → moment_text micros ≡ civil_text t
unfolding moment_text
moment_text_is t micros h e = ap civil_text (civil_time_is t micros h e)

pub moment_text_written : (t : CivilTime) (micros : ℤ) → IsCalendarTime t → civil_micros t ≡ micros → IsWritten (moment_text micros) micros
moment_text_written t micros h e = record { time = t; civil = h; micros_is = e; text_is = moment_text_is t micros h e }

pub moment_text_only : (t : CivilTime) (micros : ℤ) → IsCalendarTime t → civil_micros t ≡ micros → (text : List ℕ) → IsWritten text micros → text ≡ moment_text micros
moment_text_only t micros h e text written = one_written t micros text h e written ∙ sym (moment_text_is t micros h e)

pub moment_text_names : (t : CivilTime) (micros : ℤ) → IsCalendarTime t → civil_micros t ≡ micros → IsNameable micros → IsMoment (moment_text micros) micros
moment_text_names t micros h e within = subst (λ (text : List ℕ). IsMoment text micros) (sym (moment_text_is t micros h e)) (names_moment t micros h e within)

-- a moment that a text names is of the years 1900 to 2599, so it can be written
decimals_below : (text : List ℕ) (n : ℕ) → IsDecimals text n → n < 1_000_000
decimals_below [] n h = omega (arith, h)
decimals_below (c ∷ digits) n h = h.3.below

time_below : (text : List ℕ) (h m s n : ℕ) → IsTimeOfDay text h m s n → n < 1_000_000
time_below [] h m s n is = omega (arith, is)
time_below (c ∷ text) h m s n is = decimals_below (without_zulu (drop 8 text)) n is.2

day_named : (y m d : ℕ) → 1900 ≤ y → y ≤ 2599 → IsCivilDate (pos y) m d → (neg_ℤ (pos 25_567) ≤ℤ days_from_civil (pos y) m d) × (days_from_civil (pos y) m d <ℤ pos 230_103)
day_named y m d low high civil =
    let last : IsCivilDate (pos 1899) 12 31 = search rules in
    let from = day_count-lt_year (pos 1899) 12 31 (pos y) m d last civil.2.0 (omega (arith, signed_arith)) in
    let before = day_count-lt_year (pos y) m d (pos 2600) 1 1 civil (omega arith) (omega (arith, signed_arith)) in (
      omega (arith, signed_arith, from, new_year_count 1899, day_count-last_of_year (pos 1899), days_from_civil-day_count (pos y) m d),
      omega (arith, signed_arith, before, new_year_count 2600, days_from_civil-day_count (pos y) m d),
    )

micros_named : (day : ℤ) (rest : ℕ) (micros : ℤ) → neg_ℤ (pos 25_567) ≤ℤ day → day <ℤ pos 230_103 → rest < 86_400_000_000 → micros ≡ day *ℤ pos 86_400_000_000 +ℤ pos rest → IsNameable micros
micros_named day rest micros low high small e = record { from = omega (arith, ints); before = omega (arith, ints) }

pub named_is_nameable : (text : List ℕ) (micros : ℤ) → IsMoment text micros → IsNameable micros
named_is_nameable text micros h =
    let t = h.0 in
    let is = h.2 in
    let civil : IsCivilDate (pos t.year) t.month t.day = (year_fits t.year (omega (arith, is.date.year_in)), is.date.month_in, is.date.day_in) in
    let day = day_named t.year t.month t.day is.date.year_in.0 is.date.year_in.1 civil in
    let below = time_below (drop 10 text) t.hour t.minute t.second t.micros h.1.time in
    micros_named (days_from_civil (pos t.year) t.month t.day) (clock_micros t.hour t.minute t.second t.micros) micros day.0 day.1
    (clock_bound t.hour t.minute t.second t.micros is.hour is.minute is.second below) h.3

pub nameable_is_writable : (micros : ℤ) → IsNameable micros → IsWritable micros
nameable_is_writable micros h = record { from = omega (arith, ints, h.from); before = omega (arith, ints, h.before) }
