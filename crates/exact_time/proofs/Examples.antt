-- Worked examples of the definitions.
use Rattle.std.proofs.Common.{◌≡◌, ℕ, ◌*◌, ◌/◌, refl, pos, negsuc, neg_ℤ, nat_lt, arith, codes, Result, Ok, Err}
use Rattle.std.specs.declared.cmp.Ordering.TheVariants.{Less, Greater}
use Rattle.std.specs.Fmt.{digits}
use Rattle.std.proofs.Math.Nat.{one-dvd, dvd-add_iff_left}
use Prim.Native.Nat.{◌∣◌}
use Rattle.std.proofs.lemmas.Int.{ints}
use Rattle.jiff_core.specs.Calendar.{days_from_civil}
use Rattle.jiff_core.proofs.CalendarLemmas.{days_from_civil-day_count}
use Rattle.exact_time.proofs.Calendar.{new_year_count}
use Rattle.exact_time.specs.BTime.{clock_micros, btime_micros}
use Rattle.exact_time.specs.declared.reading.CivilTime.{CivilTime}
use Rattle.exact_time.specs.MomentText.{date_text, clock_text, date_micros, civil_micros, IsDecimals, IsMoment, without_zulu}
use Rattle.exact_time.specs.Decimals.{decimal_text, millionths_of, short_digits, IsDecimal, IsDecimalForm, RefusesDecimal, Minus}
use Rattle.exact_time.specs.Written.{IsCalendarTime, IsWritten, civil_text, greatest, moment_text}
use Rattle.exact_time.proofs.Days.{day_1800, day_1900, day_2600, day_2701}
use Rattle.exact_time.proofs.DecimalTexts.{decimal_right}
use Rattle.exact_time.proofs.MomentTexts.{moment_text_is}
use Rattle.exact_time.specs.declared.moment.TimeFault.TheVariants.{Form, Range}
use Rattle.exact_time.specs.Causes.{Rose, HasCause}
use Rattle.exact_time.specs.Rate.{seed_rate, IsFraction}
use Rattle.exact_time.specs.RateOrder.{rate_cmp}
use Rattle.exact_time.specs.SampleTime.{sample_micros, compare_sample, half_parts, floor_at, reach_at}
use Rattle.exact_time.specs.declared.ratio.Ratio.{Ratio}

date : date_text 2024 2 1 ≡ codes "2024-02-01"
date = refl

clock : clock_text 12 34 56 ≡ codes "12:34:56"
clock = refl

zulu : without_zulu (codes ".789Z") ≡ codes ".789"
zulu = refl

decimals : IsDecimals (codes ".789") 789_000
decimals = (refl, omega arith, omega arith, record { below = omega arith; text_is = refl })

-- the last microsecond of a day
day_end : clock_micros 23 59 59 999_999 ≡ 86_399_999_999
day_end = refl

-- one sample in three seconds, and twenty in one
slow : seed_rate (pos 1) (negsuc 2) ≡ (1, 3)
slow = refl

fast : seed_rate (pos 20) (pos 1) ≡ (20, 1)
fast = refl

-- 3 / 1 is the value of 6 / 2
three : IsFraction 3 1 (6, 2)
three = refl

abbrev pub three_hertz : Ratio
three_hertz = record {
  num = 3;
  den = 1;
  num_in = omega arith;
  den_in = omega arith;
  above = omega arith;
  lowest = (one-dvd 3, one-dvd 1, λ d p q. q);
}

-- a third of a second, in three parts of a microsecond
a_third : sample_micros (pos 0) 1 three_hertz ≡ pos 1_000_000
a_third = refl

-- it is after 333,333 microseconds and before 333,334
after : compare_sample (pos 0) 1 three_hertz (pos 333_333) ≡ Greater
after = refl

before : compare_sample (pos 0) 1 three_hertz (pos 333_334) ≡ Less
before = refl

-- a call that failed has counted its fault
rose : Rose 3 4
rose = omega arith

failed : HasCause 3 4 (let r : Result ℕ ℕ = Err 1 in r)
failed = record { later = omega arith; failed = rose }

went_well : HasCause 3 3 (let r : Result ℕ ℕ = Ok 1 in r)
went_well = record { later = omega arith; failed = tt }

-- 1 January 2024 is 19,723 days after 1 January 1970
pub new_year : days_from_civil (pos 2024) 1 1 ≡ pos 19_723
new_year = omega (arith, ints, days_from_civil-day_count (pos 2024) 1 1, new_year_count 2024)

pub next_year : days_from_civil (pos 2025) 1 1 ≡ pos 20_089
next_year = omega (arith, ints, days_from_civil-day_count (pos 2025) 1 1, new_year_count 2025)

-- 2024-02-01T00:00:00, as a header has it
start : btime_micros (record { year = 2024; day = 32; hour = 0; minute = 0; second = 0; fraction = 0 }) ≡ pos 1_706_745_600_000_000
start = rw new_year refl

abbrev noon : CivilTime
noon = record { year = 2024; month = 1; day = 1; hour = 12; minute = 0; second = 0; micros = 500_000 }

moment : IsMoment (codes "2024-01-01T12:00:00.5Z") (pos 1_704_110_400_500_000)
moment = (
  noon,
  record {
    date = record { year_in = omega arith; month_in = omega arith; day_in = omega arith; text_is = refl };
    time = (refl, record { hour_in = omega arith; minute_in = omega arith; second_in = omega arith; text_is = refl }, (refl, omega arith, omega arith, record { below = omega arith; text_is = refl }));
  },
  record {
    date = record { year_in = (omega arith, omega arith); month_in = (omega arith, omega arith); day_in = (omega arith, omega arith) };
    hour = omega arith;
    minute = omega arith;
    second = omega arith;
  },
  rw new_year refl,
)

-- the bounds of the moments that are written, and of those that a text may name
first_written : date_micros 1800 1 1 ≡ neg_ℤ (pos 5_364_662_400_000_000)
first_written = rw day_1800 refl

written_before : date_micros 2701 1 1 ≡ pos 23_068_108_800_000_000
written_before = rw day_2701 refl

first_named : date_micros 1900 1 1 ≡ neg_ℤ (pos 2_208_988_800_000_000)
first_named = rw day_1900 refl

named_before : date_micros 2600 1 1 ≡ pos 19_880_899_200_000_000
named_before = rw day_2600 refl

noon_text : civil_text noon ≡ codes "2024-01-01T12:00:00.500000"
noon_text = refl

noon_is : IsCalendarTime noon
noon_is = record {
  year_in = (omega arith, omega arith);
  month_in = (omega arith, omega arith);
  day_in = (omega arith, omega arith);
  hour = omega arith;
  minute = omega arith;
  second = omega arith;
  micros = omega arith;
}

noon_moment : civil_micros noon ≡ pos 1_704_110_400_500_000
noon_moment = rw new_year refl

moment_written : moment_text (pos 1_704_110_400_500_000) ≡ codes "2024-01-01T12:00:00.500000"
moment_written = moment_text_is noon (pos 1_704_110_400_500_000) noon_is noon_moment

noon_is_written : IsWritten (codes "2024-01-01T12:00:00.500000") (pos 1_704_110_400_500_000)
noon_is_written = record { time = noon; civil = noon_is; micros_is = noon_moment; text_is = refl }

-- a test passes at 7 and below, so 7 is the greatest up to 9
seven : greatest (λ n. nat_lt n 8) 9 ≡ 7
unfolding greatest
seven = refl

-- a third, zero, twenty and minus a half as they are written
third : decimal_text (pos (1 * 1_000_000 / 3)) ≡ codes "0.333333"
unfolding digits
third = refl

nothing : decimal_text (pos 0) ≡ codes "0.0"
unfolding digits
nothing = refl

twenty : decimal_text (pos 20_000_000) ≡ codes "20.0"
unfolding digits
twenty = refl

minus_a_half : decimal_text (neg_ℤ (pos 500_000)) ≡ codes "-0.5"
unfolding digits
minus_a_half = refl

shortened : short_digits (codes "050600") ≡ codes "0506"
shortened = refl

only_zeros : short_digits (codes "000000") ≡ codes "0"
only_zeros = refl

-- twelve and a quarter in millionths
quarter : millionths_of (codes "12") (codes "25") ≡ 12_250_000
quarter = refl

half_form : IsDecimalForm (codes "-0.5") Minus (codes "0") (codes "5")
half_form = record { text_is = refl; some = omega arith; whole_digits = refl; decimal_digits = refl; few = omega arith }

half_read : IsDecimal (codes "-0.5") (neg_ℤ (pos 500_000))
half_read = record { sign = Minus; whole = codes "0"; decimals = codes "5"; form = half_form; short = omega arith; value = refl }

twelve : IsDecimal (codes "+12") (pos 12_000_000)
twelve = decimal_right (codes "+12")

-- a point stands between digits, and at most 18 digits stand before it
bare_point : RefusesDecimal (codes "12.") Form
bare_point = decimal_right (codes "12.")

no_whole : RefusesDecimal (codes ".5") Form
no_whole = decimal_right (codes ".5")

seven_decimals : RefusesDecimal (codes "1.2345678") Form
seven_decimals = decimal_right (codes "1.2345678")

long_whole : RefusesDecimal (codes "0000000000000000001.5") Range
long_whole = decimal_right (codes "0000000000000000001.5")

-- half a period at 3 Hz, in three parts of a microsecond
half_of_three_hertz : half_parts three_hertz ≡ 500_000
half_of_three_hertz = refl

-- a third of a second, rounded down to a microsecond; also before 1970
third_down : floor_at (pos 0) 1 three_hertz ≡ pos 333_333
third_down = refl

third_down_before : floor_at (neg_ℤ (pos 1_000_000)) 1 three_hertz ≡ neg_ℤ (pos 666_667)
third_down_before = refl

-- two thirds of a second and half a period, or a second where so much is allowed
five_sixths : reach_at (pos 0) 2 three_hertz 0 ≡ pos 833_333
five_sixths = refl

a_second_more : reach_at (pos 0) 2 three_hertz 1_000_000 ≡ pos 1_666_666
a_second_more = refl

ten_and_nine : (d : ℕ) → d ∣ 9 → d ∣ 10 → d ∣ 1
ten_and_nine d p q = (dvd-add_iff_left d {m = 1} {n = 9} p).1 q

-- nine tenths are less than three, though the text of nine stands behind that of three
nine_tenths : Ratio
nine_tenths = record three_hertz { num = 9; den = 10; num_in = omega arith; den_in = omega arith; above = omega arith; lowest = (one-dvd 9, one-dvd 10, ten_and_nine) }

by_value : rate_cmp nine_tenths three_hertz ≡ Less
unfolding nine_tenths
by_value = refl
