-- The date of a moment, as its text begins.
use Rattle.std.proofs.Common.{◌≡◌, ℕ, ◌+◌, ◌/◌, ◌%◌, ◌<◌, ◌++◌, ℤ, pos, List, [], ◌∷◌, take, refl, sym, arith, subst}
use Rattle.std.specs.Prelude.{decimal}
use Rattle.std.specs.Str.{IsAscii}
use Rattle.std.proofs.lemmas.Fmt.{decimal_digit}
use Rattle.std.proofs.lemmas.Str.Ascii.{IsAscii-nil, IsAscii-cons}
use Rattle.jiff_core.proofs.CalendarLemmas.{days_in_month_bounds}
use Rattle.exact_time.specs.MomentText.{zero_digit, hyphen, point, two_digits, date_text}
use Rattle.exact_time.specs.Written.{IsWritten, moment_text}
use Rattle.coverage_report.specs.Texts.{day_text, hundredths, percent_text}

pub day_text_is : (micros : ℤ) → take 10 (moment_text micros) ≡ day_text micros
unfolding moment_text
day_text_is micros = refl

two_ascii : (n : ℕ) (rest : List ℕ) → n < 100 → IsAscii rest → IsAscii (two_digits n ++ rest)
two_ascii n rest h all =
    IsAscii-cons (zero_digit + n / 10) ((zero_digit + n % 10) ∷ rest) (omega (arith, h)) (IsAscii-cons (zero_digit + n % 10) rest (omega (arith, h)) all)

date_ascii : (year month day : ℕ) → year < 10_000 → month < 100 → day < 100 → IsAscii (date_text year month day)
date_ascii year month day y m d =
    let dashed = IsAscii-cons hyphen (two_digits day) (omega arith) (two_ascii day [] d IsAscii-nil) in
    two_ascii (year / 100) (two_digits (year % 100) ++ hyphen ∷ two_digits month ++ hyphen ∷ two_digits day) (omega (arith, y))
    (two_ascii (year % 100) (hyphen ∷ two_digits month ++ hyphen ∷ two_digits day) (omega arith)
    (IsAscii-cons hyphen (two_digits month ++ hyphen ∷ two_digits day) (omega arith) (two_ascii month (hyphen ∷ two_digits day) m dashed)))

pub day_ascii : (micros : ℤ) → IsWritten (moment_text micros) micros → IsAscii (take 10 (moment_text micros))
day_ascii micros w =
    let t = w.time in
    subst (λ (text : List ℕ). IsAscii (take 10 text)) (sym w.text_is)
    (date_ascii t.year t.month t.day (omega (arith, w.civil.year_in)) (omega (arith, w.civil.month_in)) (omega (arith, w.civil.day_in, days_in_month_bounds (pos t.year) t.month)))

-- the two decimals of a per cent, each by itself
pub percent_is : (n : ℕ) → decimal (hundredths n / 100) ++ point ∷ (decimal (hundredths n % 100 / 10) ++ decimal (hundredths n % 100 % 10)) ≡ percent_text n
percent_is n = λ i.
    decimal (hundredths n / 100) ++ point ∷ (decimal_digit (hundredths n % 100 / 10) (omega arith) i ++ decimal_digit (hundredths n % 100 % 10) (omega arith) i)
