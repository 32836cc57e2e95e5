-- How a line is printed.
use Rattle.std.specs.Prelude.{ℕ, ◌*◌, ◌/◌, ◌%◌, ℤ, List, ◌∷◌, ◌++◌, codes, decimal, if◌then◌else◌}
use Rattle.std.specs.Str.{bytes_eq}
use Rattle.exact_time.specs.MomentText.{point, two_digits, date_text}
use Rattle.exact_time.specs.Written.{civil_time_of}
use Rattle.coverage_report.specs.declared.line.Line.{Line}

-- the blank location, two spaces, is printed as two hyphens
abbrev pub location_text : List ℕ → List ℕ
location_text c = if bytes_eq c (codes "  ") then codes "--" else c

-- the day at which a moment lies, as YYYY-MM-DD
abbrev pub day_text : ℤ → List ℕ
day_text micros = date_text (civil_time_of micros).year (civil_time_of micros).month (civil_time_of micros).day

-- how much of a day so many microseconds are, in hundredths of a per cent, rounded down
abbrev pub hundredths : ℕ → ℕ
hundredths n = n * 10_000 / 86_400_000_000

-- the per cent with two decimals
abbrev pub percent_text : ℕ → List ℕ
percent_text n = decimal (hundredths n / 100) ++ point ∷ two_digits (hundredths n % 100)

-- the codes, the date, the number of microseconds covered, and the per cent
abbrev pub line_text : Line → List ℕ
line_text l =
    l.name.network ++ codes " " ++ l.name.station ++ codes " " ++ location_text l.name.location ++ codes " "
    ++ l.name.channel ++ codes " " ++ day_text l.day.micros ++ codes " " ++ decimal l.covered ++ codes " "
    ++ percent_text l.covered ++ codes "\n"
