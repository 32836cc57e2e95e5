-- Counting one by one, and by a sweep.
use Rattle.std.proofs.Common.{◌≡◌, ◌+◌, ◌-◌, ◌<◌, ◌≤◌, ℕ, zero, suc, min, max, ℤ, pos, ◌+ℤ◌, Bool, true, false, not, ◌&&◌, ◌||◌, List, [], ◌∷◌, cond, refl, sym, ap, ap₂, ◌∙◌, arith, inl, inr}
use Rattle.std.specs.Prelude.{nat_le, nat_lt}
use Rattle.std.specs.List.{AllByRecursion, list_any}
use Rattle.std.proofs.lemmas.Bool.{and_parts, cases_lt}
use Rattle.std.proofs.lemmas.Bool.Decides.{nat_tests}
use Rattle.std.proofs.lemmas.Int.{ints}
use Rattle.coverage_report.specs.Covered.{counted}
use Rattle.coverage_report.specs.Sweep.{StartsRise, swept}
use Rattle.coverage_report.specs.declared.stretch.Stretch.{Stretch}

-- how many of so many numbers from one on pass a test
unfoldable pub tally : (ℕ → Bool) → ℕ → ℕ → ℕ
tally test from zero = 0
tally test from (suc n) = cond (test from) 1 0 + tally test (from + 1) n

-- a number is in a stretch, and in some stretch
abbrev pub is_in : ℕ → Stretch → Bool
is_in k s = nat_le s.start k && nat_lt k s.end

abbrev pub is_swept : List Stretch → ℕ → Bool
is_swept stretches k = list_any (is_in k) stretches

-- moments counted by their distance from the first one
pub tally_is : (test : ℤ → Bool) (first : ℤ) (a n : ℕ) → counted test (first +ℤ pos a) n ≡ tally (λ k. test (first +ℤ pos k)) a n
unfolding counted tally
tally_is test first a zero = refl
tally_is test first a (suc n) =
    let next : (first +ℤ pos a) +ℤ pos 1 ≡ first +ℤ pos (a + 1) = omega (arith, ints) in
    ap (λ (k : ℕ). cond (test (first +ℤ pos a)) 1 0 + k) (ap (λ (z : ℤ). counted test z n) next ∙ tally_is test first (a + 1) n)

-- the same for tests that agree up to a bound
pub tally_same : (p q : ℕ → Bool) (top : ℕ) → ((k : ℕ) → k < top → p k ≡ q k) → (from n : ℕ) → from + n ≤ top → tally p from n ≡ tally q from n
unfolding tally
tally_same p q top same from zero h = refl
tally_same p q top same from (suc n) h =
    ap₂ (λ (b : Bool) (k : ℕ). cond b 1 0 + k) (same from (omega (arith, h))) (tally_same p q top same (from + 1) n (omega (arith, h)))

everywhere : (p q : ℕ → Bool) → ((k : ℕ) → p k ≡ q k) → (from n : ℕ) → tally p from n ≡ tally q from n
everywhere p q same from n = tally_same p q (from + n) (λ k _. same k) from n (omega arith)

either : (a b : Bool) (m n k : ℕ) → (a ≡ true → b ≡ false) → k ≡ m + n → cond (a || b) 1 0 + k ≡ (cond a 1 0 + m) + (cond b 1 0 + n)
either true true m n k apart h = absurd (let e = apart refl in (cc))
either true false m n k apart h = omega arith
either false true m n k apart h = omega arith
either false false m n k apart h = omega arith

-- of two tests that no number passes both
tally_either : (p q : ℕ → Bool) → ((k : ℕ) → p k ≡ true → q k ≡ false) → (from n : ℕ) → tally (λ k. p k || q k) from n ≡ tally p from n + tally q from n
unfolding tally
tally_either p q apart from zero = refl
tally_either p q apart from (suc n) =
    either (p from) (q from) (tally p (from + 1) n) (tally q (from + 1) n) (tally (λ k. p k || q k) (from + 1) n) (apart from) (tally_either p q apart (from + 1) n)

tally_none : (from n : ℕ) → tally (λ k. false) from n ≡ 0
unfolding tally
tally_none from zero = refl
tally_none from (suc n) = let rest = tally_none (from + 1) n in omega (arith, rest)

-- a step of the count of the numbers between two others
step_in : (a b from n : ℕ) → cond (nat_le a from && nat_lt from b) 1 0 + (min ((from + 1) + n) b - max (from + 1) a) ≡ min (from + suc n) b - max from a
step_in a b from n = elim (cases_lt from a) [
  | inl early ↦
      let out : (nat_le a from && nat_lt from b) ≡ false = grind (arith, nat_tests, early) in
      ap (λ (c : Bool). cond c 1 0 + (min ((from + 1) + n) b - max (from + 1) a)) out ∙ omega (arith, early)
  | inr begun ↦ elim (cases_lt from b) [
    | inl within ↦
        let here : (nat_le a from && nat_lt from b) ≡ true = grind (arith, nat_tests, begun, within) in
        ap (λ (c : Bool). cond c 1 0 + (min ((from + 1) + n) b - max (from + 1) a)) here ∙ omega (arith, begun, within)
    | inr ended ↦
        let out : (nat_le a from && nat_lt from b) ≡ false = grind (arith, nat_tests, ended) in
        ap (λ (c : Bool). cond c 1 0 + (min ((from + 1) + n) b - max (from + 1) a)) out ∙ omega (arith, begun, ended)
  ]
]

tally_between : (a b from n : ℕ) → tally (λ k. nat_le a k && nat_lt k b) from n ≡ min (from + n) b - max from a
unfolding tally
tally_between a b from zero = omega arith
tally_between a b from (suc n) = ap (λ (k : ℕ). cond (nat_le a from && nat_lt from b) 1 0 + k) (tally_between a b (from + 1) n) ∙ step_in a b from n

max_le : (a b k : ℕ) → nat_le (max a b) k ≡ (nat_le a k && nat_le b k)
max_le a b k = elim (cases_lt k a) [
  | inl h ↦
      let l : nat_le (max a b) k ≡ false = grind (arith, nat_tests, h) in
      let r : nat_le a k ≡ false = grind (arith, nat_tests, h) in
      l ∙ sym (ap (λ (c : Bool). c && nat_le b k) r)
  | inr h ↦ elim (cases_lt k b) [
    | inl i ↦
        let l : nat_le (max a b) k ≡ false = grind (arith, nat_tests, i) in
        let r : (nat_le a k && nat_le b k) ≡ false = grind (arith, nat_tests, i) in
        l ∙ sym r
    | inr i ↦
        let l : nat_le (max a b) k ≡ true = grind (arith, nat_tests, h, i) in
        let r : (nat_le a k && nat_le b k) ≡ true = grind (arith, nat_tests, h, i) in
        l ∙ sym r
  ]
]

le_not : (a k : ℕ) → nat_le a k ≡ not (nat_lt k a)
le_not a k = elim (cases_lt k a) [ inl h ↦ grind (arith, nat_tests, h) | inr h ↦ grind (arith, nat_tests, h) ]

first_or_later : (b s e r : Bool) → (r ≡ true → s ≡ true) → (b && ((s && e) || r)) ≡ (((b && s) && e) || ((b && not e) && r))
first_or_later false s e r up = refl
first_or_later true true true r up = refl
first_or_later true true false r up = refl
first_or_later true false e true up = absurd (let k = up refl in (cc))
first_or_later true false true false up = refl
first_or_later true false false false up = refl

-- behind a number, one that is swept is in the first stretch or behind its end
split_at : (behind start end k : ℕ) (rest : Bool) → (rest ≡ true → nat_le start k ≡ true)
    → (nat_le behind k && ((nat_le start k && nat_lt k end) || rest)) ≡ ((nat_le (max behind start) k && nat_lt k end) || (nat_le (max behind end) k && rest))
split_at behind start end k rest up =
    first_or_later (nat_le behind k) (nat_le start k) (nat_lt k end) rest up
    ∙ sym (ap₂ (λ (c d : Bool). (c && nat_lt k end) || (d && rest)) (max_le behind start k) (max_le behind end k ∙ ap (λ (c : Bool). nat_le behind k && c) (le_not end k)))

not_both : (b s e r : Bool) → ((b && s) && e) ≡ true → ((b && not e) && r) ≡ false
not_both false s e r h = refl
not_both true s true r h = refl
not_both true s false r h = absurd (none s h)
  where
    none : (s : Bool) → (s && false) ≡ true → ⊥
    none true h = (cc)
    none false h = (cc)

apart_at : (behind start end k : ℕ) (rest : Bool) → (nat_le (max behind start) k && nat_lt k end) ≡ true → (nat_le (max behind end) k && rest) ≡ false
apart_at behind start end k rest h =
    ap (λ (d : Bool). d && rest) (max_le behind end k ∙ ap (λ (c : Bool). nat_le behind k && c) (le_not end k))
    ∙ not_both (nat_le behind k) (nat_le start k) (nat_lt k end) rest (ap (λ (c : Bool). c && nat_lt k end) (sym (max_le behind start k)) ∙ h)

any_rises : (least k : ℕ) (stretches : List Stretch) → AllByRecursion (λ r. least ≤ r.start) stretches → is_swept stretches k ≡ true → nat_le least k ≡ true
any_rises least k [] all h = absurd (let e = h in (cc))
any_rises least k (s ∷ stretches) all h =
    elim (is_in k s) as (λ b. is_in k s ≡ b → (b || is_swept stretches k) ≡ true → nat_le least k ≡ true) [
      | true ↦ λ e _. (let up = all.0 in let f : nat_le s.start k ≡ true = (and_parts (nat_le s.start k) (nat_lt k s.end) e).0 in grind (arith, nat_tests, up, f))
      | false ↦ λ _ rest. any_rises least k stretches all.1 rest
    ] refl h

-- the sweep over stretches in order of their starts counts what is in them behind a number
sweep_counts : (behind from n : ℕ) (stretches : List Stretch) → StartsRise stretches
    → tally (λ k. nat_le behind k && is_swept stretches k) from n ≡ swept behind from (from + n) stretches
sweep_counts behind from n [] rise = everywhere (λ k. nat_le behind k && false) (λ k. false) (λ k. and_false (nat_le behind k)) from n ∙ tally_none from n
  where
    and_false : (b : Bool) → (b && false) ≡ false
    and_false true = refl
    and_false false = refl
sweep_counts behind from n (s ∷ stretches) rise =
    let first : ℕ → Bool = λ k. nat_le (max behind s.start) k && nat_lt k s.end in
    let later : ℕ → Bool = λ k. nat_le (max behind s.end) k && is_swept stretches k in
    everywhere (λ k. nat_le behind k && is_swept (s ∷ stretches) k) (λ k. first k || later k)
    (λ k. split_at behind s.start s.end k (is_swept stretches k) (λ h. any_rises s.start k stretches rise.0 h)) from n
    ∙ tally_either first later (λ k h. apart_at behind s.start s.end k (is_swept stretches k) h) from n
    ∙ ap₂ (λ (j k : ℕ). j + k) (tally_between (max behind s.start) s.end from n) (sweep_counts (max behind s.end) from n stretches rise.1)

behind_all : (k : ℕ) (b : Bool) → b ≡ (nat_le 0 k && b)
behind_all k b = let e : nat_le 0 k ≡ true = grind (arith, nat_tests) in ap (λ (c : Bool). c && b) (sym e)

-- and from 0 on all that is in them
pub sweep_all : (from n : ℕ) (stretches : List Stretch) → StartsRise stretches → tally (is_swept stretches) from n ≡ swept 0 from (from + n) stretches
sweep_all from n stretches rise =
    everywhere (is_swept stretches) (λ k. nat_le 0 k && is_swept stretches k) (λ k. behind_all k (is_swept stretches k)) from n
    ∙ sweep_counts 0 from n stretches rise
