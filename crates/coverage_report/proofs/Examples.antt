-- Worked examples of the definitions.
use Rattle.std.proofs.Common.{◌≡◌, ◌+◌, ◌++◌, ℤ, pos, List, [], ◌∷◌, map, take, codes, refl, sym, ap, ◌∙◌, arith, Ok, Err}
use Rattle.std.specs.Prelude.{int_le, int_lt, ◌&&◌}
use Rattle.std.specs.Fmt.{digits}
use Rattle.std.proofs.lemmas.Int.{ints}
use Rattle.jiff_core.specs.Calendar.{day_count, days_of_months, days_from_civil}
use Rattle.jiff_core.proofs.CalendarLemmas.{days_from_civil-day_count}
use Rattle.exact_time.proofs.Calendar.{new_year_count}
use Rattle.exact_time.proofs.MomentTexts.{moment_text_is}
use Rattle.exact_time.specs.MomentText.{civil_micros}
use Rattle.exact_time.specs.Written.{IsCalendarTime}
use Rattle.exact_time.specs.declared.error.TextRefusal.TheVariants.{Empty, TooLarge}
use Rattle.exact_time.specs.declared.reading.CivilTime.{CivilTime}
use Rattle.channel_globs.specs.declared.nslc.Nslc.{Nslc}
use Rattle.mseed_header.proofs.Examples.{anmo_header, anmo_row}
use Rattle.coverage_report.specs.Answers.{text_of, report}
use Rattle.coverage_report.specs.Covered.{counted, covered}
use Rattle.coverage_report.specs.Days.{numbers_from, day_at}
use Rattle.coverage_report.specs.Ends.{rounded_up}
use Rattle.coverage_report.specs.Lines.{line_if}
use Rattle.coverage_report.specs.Sweep.{swept, swept_on}
use Rattle.coverage_report.specs.Texts.{location_text, percent_text, day_text}
use Rattle.coverage_report.specs.declared.line.Line.{Line}
use Rattle.coverage_report.specs.declared.stretch.Stretch.{Stretch}
use Rattle.coverage_report.proofs.Dates.{day_text_is}
use Rattle.coverage_report.proofs.Stretched.{swept_day}

-- an hour and ten seconds, two thirds of a second, and a whole day
an_hour : percent_text 3_610_000_000 ≡ codes "4.17"
unfolding digits
an_hour = refl

two_thirds : percent_text 666_667 ≡ codes "0.00"
unfolding digits
two_thirds = refl

a_day : percent_text 86_400_000_000 ≡ codes "100.00"
unfolding digits
a_day = refl

-- a microsecond less is rounded down
nearly_a_day : percent_text 86_399_999_999 ≡ codes "99.99"
unfolding digits
nearly_a_day = refl

blank : location_text (codes "  ") ≡ codes "--"
blank = refl

location : location_text (codes "00") ≡ codes "00"
location = refl

-- of ten microseconds from 5 on, three are at 7 or later and before 10
three : counted (λ t. int_le (pos 7) t && int_lt t (pos 10)) (pos 5) 10 ≡ 3
unfolding counted
three = refl

-- a third of a microsecond counts as one
third_up : rounded_up 1 3 ≡ 1
third_up = refl

whole : rounded_up 3 3 ≡ 1
whole = refl

none : rounded_up 0 3 ≡ 0
none = refl

-- stretches that overlap are swept once
abbrev early : Stretch
early = record { start = 2; end = 6 }

abbrev late : Stretch
late = record { start = 4; end = 9 }

abbrev inner : Stretch
inner = record { start = 5; end = 6 }

overlapping : swept 0 0 100 (early ∷ late ∷ inner ∷ []) ≡ 7
overlapping = refl

-- from 3 to before 5
cut : swept 0 3 5 (early ∷ late ∷ inner ∷ []) ≡ 2
cut = refl

three_days : map (day_at (pos 0)) (numbers_from 0 3) ≡ pos 0 ∷ pos 86_400_000_000 ∷ pos 172_800_000_000 ∷ []
three_days = refl

no_line : (name : Nslc) → line_if name (pos 0) 0 ≡ []
no_line name = refl

nothing : text_of 5 [] ≡ Err Empty
nothing = refl

too_many : (l : Line) → text_of 1 (l ∷ l ∷ []) ≡ Err (TooLarge 2)
too_many l = refl

-- a record that starts two seconds before the end of a day and lasts for five
abbrev over_midnight : List Stretch
over_midnight = record { start = 86_398_000_000; end = 86_403_000_000 } ∷ []

before_midnight : swept_on 0 0 over_midnight ≡ 2_000_000
before_midnight = refl

after_midnight : swept_on 0 1 over_midnight ≡ 3_000_000
after_midnight = refl

-- a record of 100 samples at 20 Hz from the beginning of 2024-02-01 on covers five seconds of that day, and none of the next
abbrev february : ℤ
february = pos 1_706_745_600_000_000

five_seconds : covered (anmo_row ∷ []) anmo_header.name february ≡ 5_000_000
five_seconds = sym (swept_day (anmo_row ∷ []) february 2 anmo_header.name 0 (omega arith))

none_later : covered (anmo_row ∷ []) anmo_header.name (day_at february 1) ≡ 0
none_later = sym (swept_day (anmo_row ∷ []) february 2 anmo_header.name 1 (omega arith))

abbrev first_of_february : CivilTime
first_of_february = record { year = 2024; month = 2; day = 1; hour = 0; minute = 0; second = 0; micros = 0 }

is_february : IsCalendarTime first_of_february
is_february = record {
  year_in = (omega arith, omega arith);
  month_in = (omega arith, omega arith);
  day_in = (omega arith, omega arith);
  hour = omega arith;
  minute = omega arith;
  second = omega arith;
  micros = omega arith;
}

a_month : days_of_months (pos 2024) 1 ≡ 31
unfolding days_of_months
a_month = refl

no_month : days_of_months (pos 2024) 0 ≡ 0
unfolding days_of_months
no_month = refl

january : day_count (pos 2024) 2 1 ≡ day_count (pos 2024) 1 1 + 31
unfolding day_count
january =
    let days : days_of_months (pos 2024) 1 ≡ 31 = a_month in
    let before : days_of_months (pos 2024) 0 ≡ 0 = no_month in
    omega (arith, days, before)

february_day : days_from_civil (pos 2024) 2 1 ≡ pos 19_754
february_day = omega (arith, ints, days_from_civil-day_count (pos 2024) 2 1, january, new_year_count 2024)

february_begins : civil_micros first_of_february ≡ february
february_begins = rw february_day refl

february_text : day_text february ≡ codes "2024-02-01"
february_text = sym (day_text_is february) ∙ ap (take 10) (moment_text_is first_of_february february is_february february_begins)

-- and so the report of two days has one line
one_line : report (anmo_row ∷ []) february 2 1 ≡ Ok (codes "IU ANMO 00 BHZ 2024-02-01 5000000 0.00\n")
unfolding digits
one_line =
    (λ i. text_of 1 ((line_if anmo_header.name february (five_seconds i) ++ (line_if anmo_header.name (day_at february 1) (none_later i) ++ [])) ++ []))
    ∙ (λ i. Ok (codes "IU ANMO 00 BHZ " ++ february_text i ++ codes " 5000000 0.00\n"))
