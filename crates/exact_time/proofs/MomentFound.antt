-- Every text names one moment, or has one fault.
use Rattle.std.proofs.Common.{◌≡◌, ◌⊎◌, inl, inr, ℕ, ◌+◌, ◌-◌, ◌*◌, ◌/◌, ◌%◌, ◌<◌, ◌≤◌, ◌==◌, Bool, true, false, ◌&&◌, List, [], ◌∷◌, ◌++◌, length, take, drop, get_or, pos, nat_lt, nat_le, arith, ap, sym, refl, subst, Result, Ok, Err}
use Rattle.std.specs.Str.{bytes_eq}
use Rattle.std.specs.Prelude.{replicate}
use Rattle.std.specs.Int.{IsInRange}
use Rattle.std.proofs.lemmas.Bool.{and_from, and_parts}
use Rattle.std.proofs.lemmas.Bool.Decides.{nat_tests}
use Rattle.std.proofs.lemmas.Slice.Eq.{bytes_eq-Decides}
use Rattle.jiff_core.specs.Calendar.{days_in_month}
use Rattle.list_laws.specs.Only.{IsOnly}
use Rattle.exact_time.specs.declared.moment.Moment.{Moment}
use Rattle.exact_time.specs.declared.moment.TimeFault.{TimeFault}
use Rattle.exact_time.specs.declared.moment.TimeFault.TheVariants.{Form, Range}
use Rattle.exact_time.specs.declared.reading.CivilTime.{CivilTime}
use Rattle.exact_time.specs.MomentText.{zero_digit, point, letter_t, IsDateText, IsClockText, IsSixDigits, IsDecimals, IsTimeOfDay, IsMomentText, IsMomentDate, IsCivil, IsMoment, RefusesMoment, civil_micros, date_text, clock_text, six_digits, without_zulu}
use Rattle.exact_time.proofs.Spellings.{only_moment}

-- something has the property, or nothing has
abbrev Found : {V : Type 0} → (V → Type 0) → Type 0
Found {V} P = ((v : V) × P v) ⊎ ((v : V) → ¬ (P v))

-- a test decides a property
by_test : {P : Type 0} (b : Bool) → (b ≡ true → P) → (P → b ≡ true) → P ⊎ (¬ P)
by_test true here there = inl (here refl)
by_test false here there = inr (λ p. let impossible : false ≡ true = there p in (cc))

-- the number that two digits would be
number_at : List ℕ → ℕ → ℕ
number_at text i = (get_or text i 0 - 48) * 10 + (get_or text (i + 1) 0 - 48)

two_are : (text : List ℕ) (i n : ℕ) → n < 100 → get_or text i 0 ≡ 48 + n / 10 → get_or text (i + 1) 0 ≡ 48 + n % 10 → number_at text i ≡ n
unfolding number_at
two_are text i n below tens ones = omega (arith, tens, ones, below)

-- the numbers of a date, if it is one
date_test : (text : List ℕ) (y m d : ℕ) → IsDateText text y m d ⊎ (¬ (IsDateText text y m d))
date_test text y m d =
    let same = bytes_eq text (date_text y m d) in
    by_test (same && (nat_lt y 10_000 && (nat_lt m 100 && nat_lt d 100)))
    (λ e.
    let p = and_parts same (nat_lt y 10_000 && (nat_lt m 100 && nat_lt d 100)) e in
    let q = and_parts (nat_lt y 10_000) (nat_lt m 100 && nat_lt d 100) p.1 in
    let r = and_parts (nat_lt m 100) (nat_lt d 100) q.1 in
    record {
      year_in = grind (arith, nat_tests);
      month_in = grind (arith, nat_tests);
      day_in = grind (arith, nat_tests);
      text_is = (bytes_eq-Decides text (date_text y m d)).0 p.0;
    })
    (λ h.
    let year : nat_lt y 10_000 ≡ true = let b = h.year_in in grind (arith, nat_tests) in
    let month : nat_lt m 100 ≡ true = let b = h.month_in in grind (arith, nat_tests) in
    let day : nat_lt d 100 ≡ true = let b = h.day_in in grind (arith, nat_tests) in
    and_from same (nat_lt y 10_000 && (nat_lt m 100 && nat_lt d 100)) ((bytes_eq-Decides text (date_text y m d)).1 h.text_is)
    (and_from (nat_lt y 10_000) (nat_lt m 100 && nat_lt d 100) year (and_from (nat_lt m 100) (nat_lt d 100) month day)))

date_found : (text : List ℕ) → Found (λ (n : ℕ × ℕ × ℕ). IsDateText text n.0 n.1 n.2)
date_found text =
    elim (date_test text (number_at text 0 * 100 + number_at text 2) (number_at text 5) (number_at text 8)) [
      | inl is ↦ inl ((number_at text 0 * 100 + number_at text 2, number_at text 5, number_at text 8), is)
      | inr none ↦ inr (λ n h. none (its_date text n.0 n.1 n.2 h))
    ]
  where
    its_date : (text : List ℕ) (y m d : ℕ) → IsDateText text y m d → IsDateText text (number_at text 0 * 100 + number_at text 2) (number_at text 5) (number_at text 8)
    its_date text y m d h =
        let digit = λ (i : ℕ). ap (λ (xs : List ℕ). get_or xs i 0) h.text_is in
        let high : number_at text 0 ≡ y / 100 = two_are text 0 (y / 100) (omega (arith, h.year_in)) (digit 0) (digit 1) in
        let low : number_at text 2 ≡ y % 100 = two_are text 2 (y % 100) (omega arith) (digit 2) (digit 3) in
        let year : y ≡ number_at text 0 * 100 + number_at text 2 = omega (arith, high, low) in
        let month : m ≡ number_at text 5 = sym (two_are text 5 m h.month_in (digit 5) (digit 6)) in
        let day : d ≡ number_at text 8 = sym (two_are text 8 d h.day_in (digit 8) (digit 9)) in
        subst (λ (k : ℕ). IsDateText text k (number_at text 5) (number_at text 8)) year
        (subst (λ (k : ℕ). IsDateText text y k (number_at text 8)) month (subst (λ (k : ℕ). IsDateText text y m k) day h))

-- the numbers of a clock's time, if it is one
clock_test : (text : List ℕ) (h m s : ℕ) → IsClockText text h m s ⊎ (¬ (IsClockText text h m s))
clock_test text h m s =
    let same = bytes_eq text (clock_text h m s) in
    by_test (same && (nat_lt h 100 && (nat_lt m 100 && nat_lt s 100)))
    (λ e.
    let p = and_parts same (nat_lt h 100 && (nat_lt m 100 && nat_lt s 100)) e in
    let q = and_parts (nat_lt h 100) (nat_lt m 100 && nat_lt s 100) p.1 in
    let r = and_parts (nat_lt m 100) (nat_lt s 100) q.1 in
    record {
      hour_in = grind (arith, nat_tests);
      minute_in = grind (arith, nat_tests);
      second_in = grind (arith, nat_tests);
      text_is = (bytes_eq-Decides text (clock_text h m s)).0 p.0;
    })
    (λ k.
    let hour : nat_lt h 100 ≡ true = let b = k.hour_in in grind (arith, nat_tests) in
    let minute : nat_lt m 100 ≡ true = let b = k.minute_in in grind (arith, nat_tests) in
    let second : nat_lt s 100 ≡ true = let b = k.second_in in grind (arith, nat_tests) in
    and_from same (nat_lt h 100 && (nat_lt m 100 && nat_lt s 100)) ((bytes_eq-Decides text (clock_text h m s)).1 k.text_is)
    (and_from (nat_lt h 100) (nat_lt m 100 && nat_lt s 100) hour (and_from (nat_lt m 100) (nat_lt s 100) minute second)))

clock_found : (text : List ℕ) → Found (λ (n : ℕ × ℕ × ℕ). IsClockText text n.0 n.1 n.2)
clock_found text =
    elim (clock_test text (number_at text 0) (number_at text 3) (number_at text 6)) [
      | inl is ↦ inl ((number_at text 0, number_at text 3, number_at text 6), is)
      | inr none ↦ inr (λ n h. none (its_clock text n.0 n.1 n.2 h))
    ]
  where
    its_clock : (text : List ℕ) (h m s : ℕ) → IsClockText text h m s → IsClockText text (number_at text 0) (number_at text 3) (number_at text 6)
    its_clock text h m s k =
        let digit = λ (i : ℕ). ap (λ (xs : List ℕ). get_or xs i 0) k.text_is in
        let hour : h ≡ number_at text 0 = sym (two_are text 0 h k.hour_in (digit 0) (digit 1)) in
        let minute : m ≡ number_at text 3 = sym (two_are text 3 m k.minute_in (digit 3) (digit 4)) in
        let second : s ≡ number_at text 6 = sym (two_are text 6 s k.second_in (digit 6) (digit 7)) in
        subst (λ (x : ℕ). IsClockText text x (number_at text 3) (number_at text 6)) hour
        (subst (λ (x : ℕ). IsClockText text h x (number_at text 6)) minute (subst (λ (x : ℕ). IsClockText text h m x) second k))

-- the number of six digits, if they are six
six_test : (text : List ℕ) (n : ℕ) → IsSixDigits text n ⊎ (¬ (IsSixDigits text n))
six_test text n =
    let same = bytes_eq text (six_digits n) in
    by_test (same && nat_lt n 1_000_000)
    (λ e.
    let p = and_parts same (nat_lt n 1_000_000) e in
    record { below = grind (arith, nat_tests); text_is = (bytes_eq-Decides text (six_digits n)).0 p.0 })
    (λ h.
    let below : nat_lt n 1_000_000 ≡ true = let b = h.below in grind (arith, nat_tests) in
    and_from same (nat_lt n 1_000_000) ((bytes_eq-Decides text (six_digits n)).1 h.text_is) below)

six_found : (text : List ℕ) → Found (IsSixDigits text)
six_found text =
    elim (six_test text (number_at text 0 * 10_000 + number_at text 2 * 100 + number_at text 4)) [
      | inl is ↦ inl (number_at text 0 * 10_000 + number_at text 2 * 100 + number_at text 4, is)
      | inr none ↦ inr (λ n h. none (its_six text n h))
    ]
  where
    its_six : (text : List ℕ) (n : ℕ) → IsSixDigits text n → IsSixDigits text (number_at text 0 * 10_000 + number_at text 2 * 100 + number_at text 4)
    its_six text n h =
        let digit = λ (i : ℕ). ap (λ (xs : List ℕ). get_or xs i 0) h.text_is in
        let high : number_at text 0 ≡ n / 10_000 = two_are text 0 (n / 10_000) (omega (arith, h.below)) (digit 0) (digit 1) in
        let middle : number_at text 2 ≡ n / 100 % 100 = two_are text 2 (n / 100 % 100) (omega arith) (digit 2) (digit 3) in
        let low : number_at text 4 ≡ n % 100 = two_are text 4 (n % 100) (omega arith) (digit 4) (digit 5) in
        let number : n ≡ number_at text 0 * 10_000 + number_at text 2 * 100 + number_at text 4 = omega (arith, high, middle, low) in
        subst (λ (x : ℕ). IsSixDigits text x) number h

same_test : (a b : ℕ) → (a ≡ b) ⊎ (¬ (a ≡ b))
same_test a b = by_test (a == b) (λ e. grind (arith, nat_tests)) (λ e. grind (arith, nat_tests))

most_test : (a b : ℕ) → (a ≤ b) ⊎ (¬ (a ≤ b))
most_test a b = by_test (nat_le a b) (λ e. grind (arith, nat_tests)) (λ e. grind (arith, nat_tests))

decimals_found : (text : List ℕ) → Found (IsDecimals text)
decimals_found [] = inl (0, refl)
decimals_found (c ∷ digits) =
    elim (same_test c point) [
      | inr other ↦ inr (λ n h. other h.0)
      | inl is ↦ elim (most_test 1 (length digits)) [
        | inr none ↦ inr (λ n h. none h.1)
        | inl some ↦ elim (most_test (length digits) 6) [
          | inr many ↦ inr (λ n h. many h.2)
          | inl few ↦ elim (six_found (digits ++ replicate (6 - length digits) zero_digit)) [
            | inl six ↦ inl (six.0, (is, some, few, six.1))
            | inr none ↦ inr (λ n h. none n h.3)
          ]
        ]
      ]
    ]

time_found : (text : List ℕ) → Found (λ (n : ℕ × ℕ × ℕ × ℕ). IsTimeOfDay text n.0 n.1 n.2 n.3)
time_found [] = inl ((0, 0, 0, 0), (refl, refl, refl, refl))
time_found (c ∷ text) =
    elim (same_test c letter_t) [
      | inr other ↦ inr (λ n h. other h.0)
      | inl is ↦ elim (clock_found (take 8 text)) [
        | inr none ↦ inr (λ n h. none (n.0, n.1, n.2) h.1)
        | inl clock ↦ elim (decimals_found (without_zulu (drop 8 text))) [
          | inr none ↦ inr (λ n h. none n.3 h.2)
          | inl decimals ↦ inl ((clock.0.0, clock.0.1, clock.0.2, decimals.0), (is, clock.1, decimals.1))
        ]
      ]
    ]

-- the numbers of a text of one of the two forms
text_found : (text : List ℕ) → Found (IsMomentText text)
text_found text =
    elim (date_found (take 10 text)) [
      | inr none ↦ inr (λ t h. none (t.year, t.month, t.day) h.date)
      | inl date ↦ elim (time_found (drop 10 text)) [
        | inr none ↦ inr (λ t h. none (t.hour, t.minute, t.second, t.micros) h.time)
        | inl time ↦ inl (
          record { year = date.0.0; month = date.0.1; day = date.0.2; hour = time.0.0; minute = time.0.1; second = time.0.2; micros = time.0.3 },
          record { date = date.1; time = time.1 },
        )
      ]
    ]

within_test : (low high n : ℕ) → IsInRange low high n ⊎ (¬ (IsInRange low high n))
within_test low high n =
    elim (most_test low n) [
      | inr early ↦ inr (λ h. early h.0)
      | inl late ↦ elim (most_test n high) [ inl early ↦ inl (late, early) | inr above ↦ inr (λ h. above h.1) ]
    ]

date_civil : (y m d : ℕ) → IsMomentDate y m d ⊎ (¬ (IsMomentDate y m d))
date_civil y m d =
    elim (within_test 1900 2599 y) [
      | inr no_year ↦ inr (λ h. no_year h.year_in)
      | inl year ↦ elim (within_test 1 12 m) [
        | inr no_month ↦ inr (λ h. no_month h.month_in)
        | inl month ↦ elim (within_test 1 (days_in_month (pos y) m) d) [
          | inr no_day ↦ inr (λ h. no_day h.day_in)
          | inl day ↦ inl (record { year_in = year; month_in = month; day_in = day })
        ]
      ]
    ]

civil_test : (t : CivilTime) → IsCivil t ⊎ (¬ (IsCivil t))
civil_test t =
    elim (date_civil t.year t.month t.day) [
      | inr no_date ↦ inr (λ h. no_date h.date)
      | inl date ↦ elim (most_test t.hour 23) [
        | inr no_hour ↦ inr (λ h. no_hour h.hour)
        | inl hour ↦ elim (most_test t.minute 59) [
          | inr no_minute ↦ inr (λ h. no_minute h.minute)
          | inl minute ↦ elim (most_test t.second 59) [
            | inr no_second ↦ inr (λ h. no_second h.second)
            | inl second ↦ inl (record { date = date; hour = hour; minute = minute; second = second })
          ]
        ]
      ]
    ]

abbrev Answer : List ℕ → Type 0
Answer text = (answer : Result Moment TimeFault) × IsOnly (λ (m : Moment). IsMoment text m.micros) (RefusesMoment text) answer

-- a text is one moment or has one fault
pub moment_or_fault : (text : List ℕ) → Answer text
moment_or_fault text =
    elim (text_found text) [
      | inr none ↦ (Err Form, only_moment text (Err Form) none)
      | inl found ↦ elim (civil_test found.0) [
        | inr other ↦ (Err Range, only_moment text (Err Range) (found.0, found.1, other))
        | inl civil ↦ (Ok (record { micros = civil_micros found.0 }), only_moment text (Ok (record { micros = civil_micros found.0 })) (found.0, found.1, civil, refl))
      ]
    ]
