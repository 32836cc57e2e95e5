-- Words of `coverage` ask for days, or they are refused; and what days that are asked for are.
use Rattle.std.proofs.Common.{◌≡◌, ◌⊎◌, inl, inr, ℕ, ◌+◌, ◌-◌, ◌*◌, ◌/◌, ◌<◌, ◌≤◌, ℤ, pos, ◌+ℤ◌, ◌*ℤ◌, ◌-ℤ◌, negsuc, false, List, [], length, take, drop, Result, Ok, Err, MatchResult, refl, sym, ap, ◌∙◌, subst, arith}
use Rattle.std.specs.Prelude.{◌<ℤ◌, ◌≤ℤ◌, int_lt, unsigned_abs}
use Rattle.std.specs.Int.{int_gap}
use Rattle.std.proofs.lemmas.Bool.{cases_Bool, cases_eq, cases_lt}
use Rattle.std.proofs.lemmas.Int.{ints}
use Rattle.std.proofs.lemmas.List.{take_all, drop_all}
use Rattle.jiff_core.specs.Calendar.{days_from_civil}
use Rattle.exact_time.specs.MomentText.{IsDateText, IsTimeOfDay, IsMoment, RefusesMoment, civil_micros, date_micros}
use Rattle.exact_time.specs.declared.moment.Moment.{Moment}
use Rattle.exact_time.specs.declared.moment.TimeFault.{TimeFault}
use Rattle.exact_time.specs.declared.reading.CivilTime.{CivilTime}
use Rattle.exact_time.proofs.MomentFound.{moment_or_fault}
use Rattle.exact_time.proofs.MomentTexts.{named_is_nameable}
use Rattle.exact_time.proofs.Spellings.{one_moment, no_moment}
use Rattle.command_words.specs.Commands.{CoverageWords}
use Rattle.coverage_report.specs.Days.{AreDays, day_at}
use Rattle.centre_coverage.specs.Words.{IsDay, IsAsked, EndIsRefused, IsBackwards, RefusesCoverageWords}
use Rattle.centre_coverage.specs.declared.ending.CoverageRefusal.{CoverageRefusal}
use Rattle.centre_coverage.specs.declared.ending.CoverageRefusal.TheVariants.{Value, Order, NoData, TooManyLines, NotAJournal, Damaged}
use Rattle.centre_coverage.specs.declared.ending.DayWord.TheVariants.{Start, End}

-- ---- a date is a moment's text of ten bytes

plus_nothing : (a : ℤ) (n : ℕ) → n ≡ 0 → a +ℤ pos n ≡ a
plus_nothing a n h = omega (arith, ints, h)

abbrev midnight : (year month day : ℕ) → CivilTime
midnight year month day = record { year = year; month = month; day = day; hour = 0; minute = 0; second = 0; micros = 0 }

pub as_moment : (word : List ℕ) (begins : ℤ) → IsDay word begins → IsMoment word begins × (length word ≡ 10)
as_moment word begins h =
    let P : List ℕ → Type 0 = λ xs. IsMoment xs begins × (length xs ≡ 10) in
    subst P (sym h.text.text_is) (
      (
        midnight h.year h.month h.day,
        record {
          date = record { year_in = h.text.year_in; month_in = h.text.month_in; day_in = h.text.day_in; text_is = refl };
          time = (refl, refl, refl, refl);
        },
        record { date = h.there; hour = omega arith; minute = omega arith; second = omega arith },
        h.begins_is ∙ sym (plus_nothing (date_micros h.year h.month h.day) 0 refl),
      ),
      refl,
    )

begins_at : (t : CivilTime) → IsTimeOfDay [] t.hour t.minute t.second t.micros → civil_micros t ≡ date_micros t.year t.month t.day
begins_at t h = plus_nothing (date_micros t.year t.month t.day) _ (omega (arith, h.0, h.1, h.2, h.3))

pub alone : (word : List ℕ) (begins : ℤ) → IsMoment word begins → length word ≡ 10 → IsDay word begins
alone word begins h ten =
    let t = h.0 in
    let all : take 10 word ≡ word = take_all 10 word (omega (arith, ten)) in
    let none : drop 10 word ≡ [] = drop_all 10 word (omega (arith, ten)) in
    let time : IsTimeOfDay [] t.hour t.minute t.second t.micros = subst (λ (xs : List ℕ). IsTimeOfDay xs t.hour t.minute t.second t.micros) none h.1.time in
    record {
      year = t.year;
      month = t.month;
      day = t.day;
      text = subst (λ (xs : List ℕ). IsDateText xs t.year t.month t.day) all h.1.date;
      there = h.2.date;
      begins_is = h.3 ∙ begins_at t time;
    }

pub one_day : (word : List ℕ) (a b : ℤ) → IsDay word a → IsDay word b → a ≡ b
one_day word a b h k = one_moment word a b (as_moment word a h).0 (as_moment word b k).0

-- a text that is no moment, or of another length, is no date
pub no_date : (word : List ℕ) (fault : TimeFault) → RefusesMoment word fault → (begins : ℤ) → ¬ (IsDay word begins)
no_date word fault refused begins h = no_moment word begins fault (as_moment word begins h).0 refused

pub other_length : (word : List ℕ) → ¬ (length word ≡ 10) → (begins : ℤ) → ¬ (IsDay word begins)
other_length word other begins h = other (as_moment word begins h).1

abbrev IsOneOrNone : List ℕ → Type 0
IsOneOrNone word = ((begins : ℤ) × IsDay word begins) ⊎ ((begins : ℤ) → ¬ (IsDay word begins))

by_length : (word : List ℕ) (moment : Moment) → IsMoment word moment.micros → IsOneOrNone word
by_length word moment h = elim (cases_eq (length word) 10) [
  | inl ten ↦ inl (moment.micros, alone word moment.micros h ten)
  | inr other ↦ inr (other_length word other)
]

by_answer : (word : List ℕ) (answer : Result Moment TimeFault) → MatchResult answer (λ m. IsMoment word m.micros) (RefusesMoment word) → IsOneOrNone word
by_answer word (Ok moment) h = by_length word moment h
by_answer word (Err fault) h = inr (no_date word fault h)

date_or_none : (word : List ℕ) → IsOneOrNone word
date_or_none word = let found = moment_or_fault word in by_answer word found.0 found.1.right

-- ---- days between two dates

abbrev pub AreRefused : CoverageWords → Type 0
AreRefused w = (refusal : CoverageRefusal) × RefusesCoverageWords w refusal

abbrev pub AskSome : CoverageWords → Type 0
AskSome w = (first : ℤ) × (days : ℕ) × IsAsked w first days

gap_is : (a b : ℤ) → a ≤ℤ b → b ≡ a +ℤ pos (int_gap a b)
gap_is (pos a) (pos b) h = omega (arith, ints, h)
gap_is (pos a) (negsuc b) h = absurd (omega (arith, ints, h))
gap_is (negsuc a) (pos b) h = omega (arith, ints)
gap_is (negsuc a) (negsuc b) h = omega (arith, ints, h)

-- how far one moment is behind another, as the program counts it
pub apart_by : (first last : ℤ) (gap : ℕ) → gap ≡ unsigned_abs (last -ℤ first) → int_lt last first ≡ false → last ≡ first +ℤ pos gap
apart_by first last gap is order =
    let forward : first ≤ℤ last = grind (arith, ints, order) in
    let far : last -ℤ first ≡ pos (int_gap first last) = omega (arith, ints, gap_is first last forward) in
    let same : gap ≡ int_gap first last = is ∙ ap unsigned_abs far in
    gap_is first last forward ∙ ap (λ (n : ℕ). first +ℤ pos n) (sym same)

-- from the beginning of a day to that of another there are whole days
whole_days : (a b first last : ℤ) (gap : ℕ) → first ≡ a *ℤ pos 86_400_000_000 → last ≡ b *ℤ pos 86_400_000_000 → last ≡ first +ℤ pos gap
    → last ≡ first +ℤ pos (gap / 86_400_000_000 * 86_400_000_000)
whole_days a b first last gap f l g = omega (arith, ints, f, l, g)

abbrev number_of : {word : List ℕ} {begins : ℤ} → IsDay word begins → ℤ
number_of h = days_from_civil (pos h.year) h.month h.day

module _ (w : CoverageWords) (first last : ℤ) (start_is : IsDay w.start first) (end_is : IsDay w.end last) (gap : ℕ) (apart : last ≡ first +ℤ pos gap) where
  last_is : last ≡ day_at first (gap / 86_400_000_000)
  last_is = whole_days (number_of start_is) (number_of end_is) first last gap start_is.begins_is end_is.begins_is apart

  pub asks_days : gap / 86_400_000_000 + 1 ≤ 3660 → IsAsked w first (gap / 86_400_000_000 + 1)
  asks_days few =
      let behind : gap / 86_400_000_000 + 1 - 1 ≡ gap / 86_400_000_000 = omega arith in
      let P : ℤ → Type 0 = λ x. IsDay w.end x in
      record { start_is = start_is; end_is = subst P (last_is ∙ ap (day_at first) (sym behind)) end_is; some = omega arith; few = few }

  pub too_late : 3660 < gap / 86_400_000_000 + 1 → EndIsRefused w
  too_late many = record { first = first; start_is = start_is; cause = inr (last, end_is, omega (arith, ints, last_is, many)) }

  within : AreRefused w ⊎ AskSome w
  within = elim (cases_lt 3660 (gap / 86_400_000_000 + 1)) [
    | inl many ↦ inl (Value End, too_late many)
    | inr few ↦ inr (first, gap / 86_400_000_000 + 1, asks_days few)
  ]

in_order : (a b : ℤ) → (b <ℤ a) ⊎ (a ≤ℤ b)
in_order a b = elim (cases_Bool (int_lt b a)) [ inl t ↦ inl (grind (arith, ints, t)) | inr f ↦ inr (grind (arith, ints, f)) ]

between : (w : CoverageWords) (first last : ℤ) → IsDay w.start first → IsDay w.end last → AreRefused w ⊎ AskSome w
between w first last s e = elim (in_order first last) [
  | inl backwards ↦ inl (Order, record { first = first; last = last; start_is = s; end_is = e; order = backwards })
  | inr forward ↦ within w first last s e (int_gap first last) (gap_is first last forward)
]

pub words_decide : (w : CoverageWords) → AreRefused w ⊎ AskSome w
words_decide w = elim (date_or_none w.start) [
  | inl s ↦ elim (date_or_none w.end) [
    | inl e ↦ between w s.0 e.0 s.1 e.1
    | inr none ↦ inl (Value End, record { first = s.0; start_is = s.1; cause = inl none })
  ]
  | inr none ↦ inl (Value Start, none)
]

-- ---- what is asked for

-- a report can be made of it
pub are_days : (w : CoverageWords) (first : ℤ) (days : ℕ) → IsAsked w first days → AreDays first days
are_days w first days h = record {
  number = number_of h.start_is;
  begins = h.start_is.begins_is;
  some = h.some;
  few = h.few;
  before_2600 = (named_is_nameable w.end (day_at first (days - 1)) (as_moment w.end (day_at first (days - 1)) h.end_is).0).before;
}

same_days : (first : ℤ) (m n : ℕ) → 1 ≤ m → 1 ≤ n → day_at first (m - 1) ≡ day_at first (n - 1) → m ≡ n
same_days first m n some more same = omega (arith, ints, some, more, same)

-- the words ask for these days alone
pub one_asked : (w : CoverageWords) (f g : ℤ) (m n : ℕ) → IsAsked w f m → IsAsked w g n → (f ≡ g) × (m ≡ n)
one_asked w f g m n h k =
    let first : f ≡ g = one_day w.start f g h.start_is k.start_is in
    let last : day_at f (m - 1) ≡ day_at f (n - 1) =
    one_day w.end (day_at f (m - 1)) (day_at g (n - 1)) h.end_is k.end_is ∙ ap (λ (x : ℤ). day_at x (n - 1)) (sym first) in
    (first, same_days f m n h.some k.some last)

-- ---- words are refused in one way

-- which refusals there are
data Kind (w : CoverageWords) (refusal : CoverageRefusal) : Type 0 where
  no_start : refusal ≡ Value Start → ((first : ℤ) → ¬ (IsDay w.start first)) → Kind w refusal
  no_end : refusal ≡ Value End → EndIsRefused w → Kind w refusal
  backwards : refusal ≡ Order → IsBackwards w → Kind w refusal

kind_of : (w : CoverageWords) (refusal : CoverageRefusal) → RefusesCoverageWords w refusal → Kind w refusal
kind_of w (Value Start) h = no_start refl h
kind_of w (Value End) h = no_end refl h
kind_of w Order h = backwards refl h
kind_of w NoData h = absurd h
kind_of w (TooManyLines lines limit) h = absurd h
kind_of w NotAJournal h = absurd h
kind_of w (Damaged at) h = absurd h

end_not_backwards : (w : CoverageWords) → EndIsRefused w → IsBackwards w → ⊥
end_not_backwards w h k = elim h.cause [
  | inl none ↦ none k.last k.end_is
  | inr late ↦
      let first : h.first ≡ k.first = one_day w.start h.first k.first h.start_is k.start_is in
      let last : late.0 ≡ k.last = one_day w.end late.0 k.last late.1 k.end_is in
      omega (arith, ints, first, last, late.2, k.order)
]

one_kind : (w : CoverageWords) (r s : CoverageRefusal) → Kind w r → Kind w s → r ≡ s
one_kind w r s (no_start e none) (no_start f none_too) = e ∙ sym f
one_kind w r s (no_start e none) (no_end f k) = absurd (none k.first k.start_is)
one_kind w r s (no_start e none) (backwards f k) = absurd (none k.first k.start_is)
one_kind w r s (no_end e h) (no_start f none) = absurd (none h.first h.start_is)
one_kind w r s (no_end e h) (no_end f k) = e ∙ sym f
one_kind w r s (no_end e h) (backwards f k) = absurd (end_not_backwards w h k)
one_kind w r s (backwards e h) (no_start f none) = absurd (none h.first h.start_is)
one_kind w r s (backwards e h) (no_end f k) = absurd (end_not_backwards w k h)
one_kind w r s (backwards e h) (backwards f k) = e ∙ sym f

pub one_refused : (w : CoverageWords) (r s : CoverageRefusal) → RefusesCoverageWords w r → RefusesCoverageWords w s → r ≡ s
one_refused w r s h k = one_kind w r s (kind_of w r h) (kind_of w s k)

-- and those that ask for days aren't
module _ (w : CoverageWords) (first : ℤ) (days : ℕ) (asked : IsAsked w first days) where
  late_or_none : EndIsRefused w → ⊥
  late_or_none h = elim h.cause [
    | inl none ↦ none (day_at first (days - 1)) asked.end_is
    | inr late ↦
        let same : h.first ≡ first = one_day w.start h.first first h.start_is asked.start_is in
        let last : late.0 ≡ day_at first (days - 1) = one_day w.end late.0 (day_at first (days - 1)) late.1 asked.end_is in
        omega (arith, ints, same, last, late.2, asked.few, asked.some)
  ]

  not_backwards : IsBackwards w → ⊥
  not_backwards h =
      let same : h.first ≡ first = one_day w.start h.first first h.start_is asked.start_is in
      let last : h.last ≡ day_at first (days - 1) = one_day w.end h.last (day_at first (days - 1)) h.end_is asked.end_is in
      omega (arith, ints, same, last, h.order)

  no_kind : (refusal : CoverageRefusal) → Kind w refusal → ⊥
  no_kind refusal (no_start e none) = none first asked.start_is
  no_kind refusal (no_end e h) = late_or_none h
  no_kind refusal (backwards e h) = not_backwards h

pub not_both : (w : CoverageWords) (refusal : CoverageRefusal) (first : ℤ) (days : ℕ) → RefusesCoverageWords w refusal → IsAsked w first days → ⊥
not_both w refusal first days h asked = no_kind w first days asked refusal (kind_of w refusal h)
