-- The text of a moment: ASCII, one alone, and read back as the same moment.
use Rattle.std.proofs.Common.{◌≡◌, ℕ, ◌+◌, ◌/◌, ◌%◌, ◌<◌, ◌≤◌, ◌==◌, Bool, false, if◌then◌else◌, List, [], ◌∷◌, ◌++◌, take, arith, rules, refl, ap, sym, subst, ◌∙◌, ℤ, pos, neg_ℤ, ◌+ℤ◌, ◌*ℤ◌, ◌<ℤ◌, ◌≤ℤ◌}
use Rattle.std.proofs.lemmas.Int.{ints}
use Rattle.std.proofs.lemmas.Bool.{ne_eqb}
use Rattle.std.proofs.lemmas.Str.Ascii.{IsAscii-cons, IsAscii-nil}
use Rattle.std.specs.Str.{IsAscii}
use Rattle.jiff_core.specs.declared.civil.date.Date.{Date}
use Rattle.jiff_core.specs.Calendar.{days_from_civil, IsYear}
use Rattle.jiff_core.proofs.SignedLemmas.{signed_arith}
use Rattle.jiff_core.proofs.CalendarLemmas.{days_in_month_bounds}
use Rattle.jiff_core.proofs.DateLemmas.{epoch_day_injective}
use Rattle.exact_time.specs.BTime.{clock_micros}
use Rattle.exact_time.specs.declared.reading.CivilTime.{CivilTime}
use Rattle.exact_time.specs.MomentText.{point, colon, hyphen, letter_t, letter_z, two_digits, six_digits, date_text, clock_text, without_zulu, IsDecimals, IsMomentText, IsMoment, civil_micros}
use Rattle.exact_time.specs.Written.{IsNameable, IsCalendarTime, IsWritten, civil_text}
use Rattle.exact_time.proofs.Days.{year_from, year_before, day_1900, day_2600}

ascii_two : (n : ℕ) (rest : List ℕ) → n < 100 → IsAscii rest → IsAscii (two_digits n ++ rest)
ascii_two n rest h more = IsAscii-cons (48 + n / 10) ((48 + n % 10) ∷ rest) (omega arith) (IsAscii-cons (48 + n % 10) rest (omega arith) more)

ascii_six : (n : ℕ) → n < 1_000_000 → IsAscii (point ∷ six_digits n)
ascii_six n h =
    let low = ascii_two (n % 100) [] (omega arith) IsAscii-nil in
    let middle = ascii_two (n / 100 % 100) (two_digits (n % 100)) (omega arith) low in
    let high = ascii_two (n / 10_000) (two_digits (n / 100 % 100) ++ two_digits (n % 100)) (omega arith) middle in
    IsAscii-cons point (six_digits n) (omega arith) high

ascii_marked : (mark n : ℕ) (rest : List ℕ) → mark < 128 → n < 100 → IsAscii rest → IsAscii (mark ∷ two_digits n ++ rest)
ascii_marked mark n rest mark_in n_in more = IsAscii-cons mark (two_digits n ++ rest) mark_in (ascii_two n rest n_in more)

ascii_clock : (h m s : ℕ) (rest : List ℕ) → h < 100 → m < 100 → s < 100 → IsAscii rest → IsAscii (letter_t ∷ clock_text h m s ++ rest)
ascii_clock h m s rest h_in m_in s_in more =
    let second = ascii_marked colon s rest (omega arith) s_in more in
    let minute = ascii_marked colon m (colon ∷ two_digits s ++ rest) (omega arith) m_in second in
    ascii_marked letter_t h (colon ∷ two_digits m ++ colon ∷ two_digits s ++ rest) (omega arith) h_in minute

ascii_date : (y m d : ℕ) (rest : List ℕ) → y < 10_000 → m < 100 → d < 100 → IsAscii rest → IsAscii (date_text y m d ++ rest)
ascii_date y m d rest y_in m_in d_in more =
    let day = ascii_marked hyphen d rest (omega arith) d_in more in
    let month = ascii_marked hyphen m (hyphen ∷ two_digits d ++ rest) (omega arith) m_in day in
    let year = ascii_two (y % 100) (hyphen ∷ two_digits m ++ hyphen ∷ two_digits d ++ rest) (omega arith) month in
    ascii_two (y / 100) (two_digits (y % 100) ++ hyphen ∷ two_digits m ++ hyphen ∷ two_digits d ++ rest) (omega arith) year

pub ascii_civil : (t : CivilTime) → IsCalendarTime t → IsAscii (civil_text t)
ascii_civil t h =
    let rest = point ∷ six_digits t.micros in
    let time = ascii_clock t.hour t.minute t.second rest (omega (arith, h.hour)) (omega (arith, h.minute)) (omega (arith, h.second)) (ascii_six t.micros h.micros) in
    let day : t.day < 100 = omega (arith, h.day_in, days_in_month_bounds (pos t.year) t.month) in
    ascii_date t.year t.month t.day (letter_t ∷ clock_text t.hour t.minute t.second ++ rest) (omega (arith, h.year_in)) (omega (arith, h.month_in)) day time

-- the day of a civil time
pub year_fits : (y : ℕ) → y ≤ 2700 → IsYear (pos y)
year_fits y h = search (rules, signed_arith)

abbrev day_of : (t : CivilTime) → IsCalendarTime t → Date
day_of t h = record {
  year = pos t.year;
  month = t.month;
  day = t.day;
  year_in = year_fits t.year h.year_in.1;
  month_in = h.month_in;
  day_in = h.day_in;
}

pub clock_bound : (h m s n : ℕ) → h ≤ 23 → m ≤ 59 → s ≤ 59 → n < 1_000_000 → clock_micros h m s n < 86_400_000_000
clock_bound h m s n h_in m_in s_in n_in = omega arith

same_parts : (a b : ℤ) (x y : ℕ) → x < 86_400_000_000 → y < 86_400_000_000 → a *ℤ pos 86_400_000_000 +ℤ pos x ≡ b *ℤ pos 86_400_000_000 +ℤ pos y → (a ≡ b) × (x ≡ y)
same_parts a b x y x_in y_in e = (omega (arith, ints), omega (arith, ints))

same_clock : (h m s n h' m' s' n' : ℕ) → m ≤ 59 → s ≤ 59 → n < 1_000_000 → m' ≤ 59 → s' ≤ 59 → n' < 1_000_000 → clock_micros h m s n ≡ clock_micros h' m' s' n' → (h ≡ h') × (m ≡ m') × (s ≡ s') × (n ≡ n')
same_clock h m s n h' m' s' n' m_in s_in n_in m_in' s_in' n_in' e = (omega arith, omega arith, omega arith, omega arith)

-- a last decimal is no Z
no_zulu : (n : ℕ) → without_zulu (point ∷ six_digits n) ≡ point ∷ six_digits n
no_zulu n =
    let other : (48 + n % 100 % 10 == letter_z) ≡ false = ne_eqb _ _ (λ (e : 48 + n % 100 % 10 ≡ letter_z). omega arith) in
    ap (λ (b : Bool). if b then take 6 (point ∷ six_digits n) else point ∷ six_digits n) other

decimals : (n : ℕ) → n < 1_000_000 → IsDecimals (without_zulu (point ∷ six_digits n)) n
decimals n h = subst (λ (text : List ℕ). IsDecimals text n) (sym (no_zulu n)) (refl, omega arith, omega arith, record { below = h; text_is = refl })

spelt : (t : CivilTime) → IsCalendarTime t → IsMomentText (civil_text t) t
spelt t h = record {
  date = record { year_in = omega (arith, h.year_in); month_in = omega (arith, h.month_in); day_in = omega (arith, h.day_in, days_in_month_bounds (pos t.year) t.month); text_is = refl };
  time = (refl, record { hour_in = omega (arith, h.hour); minute_in = omega (arith, h.minute); second_in = omega (arith, h.second); text_is = refl }, decimals t.micros h.micros);
}

-- a moment has one day and time of day, so it has one text
same_time : (t u : CivilTime) → IsCalendarTime t → IsCalendarTime u → civil_micros t ≡ civil_micros u → t ≡ u
same_time t u h k e =
    let parts = same_parts (days_from_civil (pos t.year) t.month t.day) (days_from_civil (pos u.year) u.month u.day) (clock_micros t.hour t.minute t.second t.micros) (clock_micros u.hour u.minute u.second u.micros)
    (clock_bound _ _ _ _ h.hour h.minute h.second h.micros) (clock_bound _ _ _ _ k.hour k.minute k.second k.micros) e in
    let day = epoch_day_injective (day_of t h) (day_of u k) parts.0 in
    let clock = same_clock t.hour t.minute t.second t.micros u.hour u.minute u.second u.micros h.minute h.second h.micros k.minute k.second k.micros parts.1 in
    let year : t.year ≡ u.year = omega (arith, ints, day.0) in
    λ i. record { year = year i; month = day.1 i; day = day.2 i; hour = clock.0 i; minute = clock.1 i; second = clock.2 i; micros = clock.3 i }

pub one_written : (t : CivilTime) (micros : ℤ) (text : List ℕ) → IsCalendarTime t → civil_micros t ≡ micros → IsWritten text micros → text ≡ civil_text t
one_written t micros text h e w = w.text_is ∙ ap civil_text (same_time w.time t w.civil h (w.micros_is ∙ sym e))

-- a moment of the years 1900 to 2599 has a day of these years
day_from : (d : ℤ) (n : ℕ) (micros : ℤ) → n < 86_400_000_000 → d *ℤ pos 86_400_000_000 +ℤ pos n ≡ micros → IsNameable micros → (neg_ℤ (pos 25_567) ≤ℤ d) × (d <ℤ pos 230_103)
day_from d n micros small e h = (omega (arith, ints, h.from), omega (arith, ints, h.before))

pub names_moment : (t : CivilTime) (micros : ℤ) → IsCalendarTime t → civil_micros t ≡ micros → IsNameable micros → IsMoment (civil_text t) micros
names_moment t micros h e within =
    let days = day_from (days_from_civil (pos t.year) t.month t.day) _ micros (clock_bound _ _ _ _ h.hour h.minute h.second h.micros) e within in
    let low : pos 1900 ≤ℤ pos t.year = year_from (pos 1900) (day_of t h) (rw day_1900 days.0) in
    let high : pos t.year ≤ℤ pos 2599 = year_before 2599 (day_of t h) (omega arith) (rw day_2600 days.1) in (
      t,
      spelt t h,
      record {
        date = record { year_in = (omega (arith, ints), omega (arith, ints)); month_in = h.month_in; day_in = h.day_in };
        hour = h.hour;
        minute = h.minute;
        second = h.second;
      },
      sym e,
    )
