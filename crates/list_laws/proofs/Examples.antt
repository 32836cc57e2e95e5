-- Worked examples of the definitions.
use Rattle.std.proofs.Common.{◌≡◌, ℕ, List, suc, ◌<◌, ◌+◌, ◌*◌, ◌/◌, ◌%◌, ◌==◌, [], ◌∷◌, Result, Ok, Err, MatchResult, refl, ap, arith, if◌then◌else◌, nat_cmp}
use Rattle.std.specs.Prelude.{ℤ, pos, not, nat_lt}
use Rattle.std.specs.Int.{int_min, int_max}
use Rattle.std.specs.List.{list_all}
use Rattle.std.specs.declared.cmp.Ordering.TheVariants.{Less}
use Rattle.list_laws.specs.Breaks.{runs_of, after_last, made_of_each}
use Rattle.list_laws.specs.Fractions.{cross_cmp}
use Rattle.list_laws.specs.Greater.{greater}
use Rattle.list_laws.specs.InOrder.{in_order}
use Rattle.list_laws.specs.Mending.{mend}
use Rattle.list_laws.specs.Faults.{IsFirstFault, IsFirstWithout}
use Rattle.list_laws.specs.Only.{IsOnly}
use Rattle.list_laws.specs.Runs.{run_from, IsFirstRefused}

-- each key once
keys : in_order nat_cmp [] (3 ∷ 1 ∷ 3 ∷ 2 ∷ []) ≡ 1 ∷ 2 ∷ 3 ∷ []
keys = refl

-- a sum that refuses zeros and tells their number
add_some : ℕ → ℕ → ℕ → Result ℕ ℕ
add_some n sum x = if x == 0 then Err n else Ok (sum + x)

sum : run_from add_some 1 0 (5 ∷ 7 ∷ []) ≡ Ok 12
unfolding add_some
sum = refl

second : run_from add_some 1 0 (5 ∷ 0 ∷ 0 ∷ []) ≡ Err 2
unfolding add_some
second = refl

first_zero : IsFirstRefused add_some 1 0 (5 ∷ 0 ∷ 0 ∷ []) 2
unfolding add_some
first_zero = record { before = 5 ∷ []; here = 0; after = 0 ∷ []; split = refl; state = 5; clean = refl; refused = refl }

-- halves, of which an odd number has none
half : ℕ → Result ℕ ℕ
half n = if n % 2 == 0 then Ok (n / 2) else Err n

first_odd : IsFirstFault half (2 ∷ 4 ∷ 3 ∷ 5 ∷ []) 3
unfolding half
first_odd = record { before = 2 ∷ 4 ∷ []; here = 3; after = 5 ∷ []; split = refl; values = 1 ∷ 2 ∷ []; clean = refl; refused = refl }

-- three is the one half of six, and six has no fault
is_half : (answer : Result ℕ ℕ) → MatchResult answer (λ half. 2 * half ≡ 6) (λ left. suc (2 * left) ≡ 6) → answer ≡ Ok 3
is_half (Ok half) h = let same : half ≡ 3 = omega (arith, h) in ap Ok same
is_half (Err left) h = absurd (omega (arith, h))

only_half : IsOnly (λ (half : ℕ). 2 * half ≡ 6) (λ (left : ℕ). suc (2 * left) ≡ 6) (Ok 3)
only_half = record { right = refl; only = is_half }

first_large : IsFirstWithout (λ n. n < 5) (2 ∷ 7 ∷ 9 ∷ []) 7
first_large = record { before = 2 ∷ []; after = 9 ∷ []; split = refl; all = (omega arith, tt); lacks = λ h. absurd (omega (arith, h)) }

-- numbers that don't rise by one break from the one before them
steps : runs_of (after_last (λ (a b : ℕ). not (a + 1 == b))) (1 ∷ 2 ∷ 5 ∷ 6 ∷ 8 ∷ []) ≡ (1 ∷ 2 ∷ []) ∷ (5 ∷ 6 ∷ []) ∷ (8 ∷ []) ∷ []
steps = refl

-- numbers that are greater than all before them break
records : runs_of (λ earlier x. list_all (λ y. nat_lt y x) earlier) (3 ∷ 1 ∷ 3 ∷ 5 ∷ 4 ∷ []) ≡ (3 ∷ 1 ∷ 3 ∷ []) ∷ (5 ∷ 4 ∷ []) ∷ []
records = refl

-- the sum of each run
sums : made_of_each (λ (x : ℕ). x) (λ s x. s + x) ((3 ∷ 1 ∷ 3 ∷ []) ∷ (5 ∷ 4 ∷ []) ∷ []) ≡ 7 ∷ 9 ∷ []
sums = refl

-- spans as pairs of a start and a reach
abbrev joined : ℤ × ℤ → ℤ × ℤ → ℤ × ℤ
joined a b = (int_min a.0 b.0, int_max a.1 b.1)

abbrev put : ℕ × ℕ → List (ℤ × ℤ) → List (ℤ × ℤ)
put s ts = mend (λ (t : ℤ × ℤ). t.0) (λ t. t.1) joined (pos s.0, pos s.1) ts

-- a span joins the two that it touches
bridge : put (4, 8) (put (0, 5) (put (7, 9) (put (20, 30) []))) ≡ (pos 0, pos 9) ∷ (pos 20, pos 30) ∷ []
bridge = refl

-- one that touches none stands between
between : put (10, 19) (put (0, 9) (put (20, 30) [])) ≡ (pos 0, pos 9) ∷ (pos 10, pos 19) ∷ (pos 20, pos 30) ∷ []
between = refl

-- the greater of two
greatest : greater nat_cmp 3 5 ≡ 5
greatest = refl

-- a third is less than a half
a_third : cross_cmp (λ (f : ℕ × ℕ). f.0) (λ f. f.1) (1, 3) (1, 2) ≡ Less
a_third = refl
