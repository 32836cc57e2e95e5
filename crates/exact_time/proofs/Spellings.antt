-- A text has the numbers of one time at most, so it names one moment or has one fault.
use Rattle.std.proofs.Common.{◌≡◌, ℕ, ℤ, ◌+◌, ◌/◌, ◌%◌, ◌<◌, List, [], ◌∷◌, take, drop, get_or, arith, ap, sym, refl, ◌∙◌, subst, Result, MatchResult}
use Rattle.list_laws.specs.Only.{IsOnly}
use Rattle.list_laws.proofs.Answers.{only_from}
use Rattle.exact_time.specs.declared.moment.Moment.{Moment}
use Rattle.exact_time.specs.declared.moment.TimeFault.{TimeFault}
use Rattle.exact_time.specs.declared.moment.TimeFault.TheVariants.{Form, Range}
use Rattle.exact_time.specs.declared.reading.CivilTime.{CivilTime}
use Rattle.exact_time.specs.MomentText.{IsDateText, IsClockText, IsSixDigits, IsDecimals, IsTimeOfDay, IsMomentText, IsCivil, IsMoment, RefusesMoment, civil_micros, date_text, clock_text, six_digits, without_zulu}

-- two digits are those of one number below 100
same_two : (n m : ℕ) → n < 100 → m < 100 → 48 + n / 10 ≡ 48 + m / 10 → 48 + n % 10 ≡ 48 + m % 10 → n ≡ m
same_two n m n_in m_in tens ones = omega arith

one_date : (text : List ℕ) (y m d y' m' d' : ℕ) → IsDateText text y m d → IsDateText text y' m' d' → (y ≡ y') × (m ≡ m') × (d ≡ d')
one_date text y m d y' m' d' h k =
    let e : date_text y m d ≡ date_text y' m' d' = sym h.text_is ∙ k.text_is in
    let digit = λ (i : ℕ). ap (λ (xs : List ℕ). get_or xs i 0) e in
    let high : y / 100 ≡ y' / 100 = same_two (y / 100) (y' / 100) (omega (arith, h.year_in)) (omega (arith, k.year_in)) (digit 0) (digit 1) in
    let low : y % 100 ≡ y' % 100 = same_two (y % 100) (y' % 100) (omega arith) (omega arith) (digit 2) (digit 3) in
    (omega (arith, high, low), same_two m m' h.month_in k.month_in (digit 5) (digit 6), same_two d d' h.day_in k.day_in (digit 8) (digit 9))

one_clock : (text : List ℕ) (h m s h' m' s' : ℕ) → IsClockText text h m s → IsClockText text h' m' s' → (h ≡ h') × (m ≡ m') × (s ≡ s')
one_clock text h m s h' m' s' a b =
    let e : clock_text h m s ≡ clock_text h' m' s' = sym a.text_is ∙ b.text_is in
    let digit = λ (i : ℕ). ap (λ (xs : List ℕ). get_or xs i 0) e in
    (same_two h h' a.hour_in b.hour_in (digit 0) (digit 1), same_two m m' a.minute_in b.minute_in (digit 3) (digit 4), same_two s s' a.second_in b.second_in (digit 6) (digit 7))

one_six : (text : List ℕ) (n m : ℕ) → IsSixDigits text n → IsSixDigits text m → n ≡ m
one_six text n m h k =
    let e : six_digits n ≡ six_digits m = sym h.text_is ∙ k.text_is in
    let digit = λ (i : ℕ). ap (λ (xs : List ℕ). get_or xs i 0) e in
    let high : n / 10_000 ≡ m / 10_000 = same_two (n / 10_000) (m / 10_000) (omega (arith, h.below)) (omega (arith, k.below)) (digit 0) (digit 1) in
    let middle : n / 100 % 100 ≡ m / 100 % 100 = same_two (n / 100 % 100) (m / 100 % 100) (omega arith) (omega arith) (digit 2) (digit 3) in
    let low : n % 100 ≡ m % 100 = same_two (n % 100) (m % 100) (omega arith) (omega arith) (digit 4) (digit 5) in
    omega (arith, high, middle, low)

one_decimals : (text : List ℕ) (n m : ℕ) → IsDecimals text n → IsDecimals text m → n ≡ m
one_decimals [] n m h k = h ∙ sym k
one_decimals (c ∷ digits) n m h k = one_six _ n m h.3 k.3

one_time : (text : List ℕ) (h m s n h' m' s' n' : ℕ) → IsTimeOfDay text h m s n → IsTimeOfDay text h' m' s' n' → (h ≡ h') × (m ≡ m') × (s ≡ s') × (n ≡ n')
one_time [] h m s n h' m' s' n' a b = (a.0 ∙ sym b.0, a.1 ∙ sym b.1, a.2 ∙ sym b.2, a.3 ∙ sym b.3)
one_time (c ∷ text) h m s n h' m' s' n' a b =
    let p = one_clock (take 8 text) h m s h' m' s' a.1 b.1 in
    (p.0, p.1, p.2, one_decimals (without_zulu (drop 8 text)) n n' a.2 b.2)

one_civil : (text : List ℕ) (t u : CivilTime) → IsMomentText text t → IsMomentText text u → t ≡ u
one_civil text t u h k =
    let p = one_date (take 10 text) t.year t.month t.day u.year u.month u.day h.date k.date in
    let q = one_time (drop 10 text) t.hour t.minute t.second t.micros u.hour u.minute u.second u.micros h.time k.time in
    λ i. record { year = p.0 i; month = p.1 i; day = p.2 i; hour = q.0 i; minute = q.1 i; second = q.2 i; micros = q.3 i }

-- where one reading of a text is a time, each is
pub civil_once : (text : List ℕ) (t u : CivilTime) → IsMomentText text t → IsMomentText text u → IsCivil t → IsCivil u
civil_once text t u h k civil = subst (λ (v : CivilTime). IsCivil v) (one_civil text t u h k) civil

-- a text names one moment
pub one_moment : (text : List ℕ) (a b : ℤ) → IsMoment text a → IsMoment text b → a ≡ b
one_moment text a b h k = h.3 ∙ ap civil_micros (one_civil text h.0 k.0 h.1 k.1) ∙ sym k.3

same_moment : (text : List ℕ) (a b : Moment) → IsMoment text a.micros → IsMoment text b.micros → a ≡ b
same_moment text a b h k = let e = one_moment text a.micros b.micros h k in λ i. record { micros = e i }

one_refusal : (text : List ℕ) (f g : TimeFault) → RefusesMoment text f → RefusesMoment text g → f ≡ g
one_refusal text Form Form h k = refl
one_refusal text Form Range h k = absurd (h k.0 k.1)
one_refusal text Range Form h k = absurd (k h.0 h.1)
one_refusal text Range Range h k = refl

-- and is not refused
pub no_moment : (text : List ℕ) (micros : ℤ) (f : TimeFault) → IsMoment text micros → RefusesMoment text f → ⊥
no_moment text micros Form h k = k h.0 h.1
no_moment text micros Range h k = k.2 (civil_once text h.0 k.0 h.1 k.1 h.2)

pub only_moment : (text : List ℕ) (answer : Result Moment TimeFault) → MatchResult answer (λ m. IsMoment text m.micros) (RefusesMoment text)
    → IsOnly (λ (m : Moment). IsMoment text m.micros) (RefusesMoment text) answer
only_moment text answer right =
    only_from (λ (m : Moment). IsMoment text m.micros) (RefusesMoment text) (same_moment text) (one_refusal text) (λ m f h k. no_moment text m.micros f h k) answer right
