-- What the words of `coverage` ask for: days, from the one that START names to the one that END names.
use Rattle.std.specs.Prelude.{◌≡◌, ◌⊎◌, ℕ, ◌-◌, ◌≤◌, ℤ, ◌≤ℤ◌, ◌<ℤ◌, List, Option, None, Some, Result, Ok, Err}
use Rattle.exact_time.specs.MomentText.{IsDateText, IsMomentDate, date_micros}
use Rattle.exact_time.specs.declared.moment.Moment.{Moment}
use Rattle.command_words.specs.Commands.{CoverageWords}
use Rattle.coverage_report.specs.Days.{day_at}
use Rattle.centre_coverage.specs.declared.ending.CoverageRefusal.{CoverageRefusal}
use Rattle.centre_coverage.specs.declared.ending.CoverageRefusal.TheVariants.{Value, Order}
use Rattle.centre_coverage.specs.declared.ending.DayWord.{DayWord}
use Rattle.centre_coverage.specs.declared.ending.DayWord.TheVariants.{Start, End}

-- the word is a date, YYYY-MM-DD, of the years 1900 to 2599, and its day begins at so many microseconds since 1970
pub record IsDay (word : List ℕ) (begins : ℤ) : Type 0 where
  pub year : ℕ
  pub month : ℕ
  pub day : ℕ
  pub text : IsDateText word year month day
  pub there : IsMomentDate year month day
  pub begins_is : begins ≡ date_micros year month day

-- the moment at which the day of the word begins, or none where the word is no date
abbrev pub IsDayOf : List ℕ → Option Moment → Type 0
IsDayOf word None = (begins : ℤ) → ¬ (IsDay word begins)
IsDayOf word (Some moment) = IsDay word moment.micros

-- START is the first of so many days, 1 to 3660, and END the last
pub record IsAsked (w : CoverageWords) (first : ℤ) (days : ℕ) : Type 0 where
  pub start_is : IsDay w.start first
  pub end_is : IsDay w.end (day_at first (days - 1))
  pub some : 1 ≤ days
  pub few : days ≤ 3660

-- START is a date, and END isn't, or it is a later one than the last of 3660 days
pub record EndIsRefused (w : CoverageWords) : Type 0 where
  pub first : ℤ
  pub start_is : IsDay w.start first
  pub cause : ((last : ℤ) → ¬ (IsDay w.end last)) ⊎ ((last : ℤ) × IsDay w.end last × (day_at first 3660 ≤ℤ last))

-- both are dates, and END is the earlier one
pub record IsBackwards (w : CoverageWords) : Type 0 where
  pub first : ℤ
  pub last : ℤ
  pub start_is : IsDay w.start first
  pub end_is : IsDay w.end last
  pub order : last <ℤ first

-- why a word is refused
abbrev pub RefusesWord : CoverageWords → DayWord → Type 0
RefusesWord w Start = (first : ℤ) → ¬ (IsDay w.start first)
RefusesWord w End = EndIsRefused w

-- why the words are refused
abbrev pub RefusesCoverageWords : CoverageWords → CoverageRefusal → Type 0
RefusesCoverageWords w (Value word) = RefusesWord w word
RefusesCoverageWords w Order = IsBackwards w
RefusesCoverageWords w _ = ⊥

-- the words are refused, and this is the answer
abbrev pub IsWordsAnswer : CoverageWords → Result (List ℕ) CoverageRefusal → Type 0
IsWordsAnswer w (Ok text) = ⊥
IsWordsAnswer w (Err refusal) = RefusesCoverageWords w refusal
