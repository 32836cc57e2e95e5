-- The room that a disk in memory keeps for the steps of the calls that are still to fail.
use Rattle.std.proofs.Common.{◌≡◌, ℕ, ◌+◌, ◌≤◌, List, [], ◌∷◌, length, Bool, true, cond, arith}
use Rattle.std.proofs.lemmas.Bool.Decides.{nat_tests}
use Rattle.std.proofs.lemmas.Bool.{false≢true}
use Rattle.std.proofs.lemmas.List.Sums.{sum_by-cons, count_by-le-length}
use Rattle.std.specs.Prelude.{nat_lt, ◌==◌, ◌||◌}
use Rattle.disk_model.specs.Sound.{waiting}
use Rattle.disk_model.specs.Calls.{is_numbered}

waiting-cons : (calls x : ℕ) (xs : List ℕ) → waiting calls (x ∷ xs) ≡ cond (nat_lt calls x) 1 0 + waiting calls xs
waiting-cons calls x xs = sum_by-cons (λ number. cond (nat_lt calls number) 1 0) x xs

-- later, no more are still to come
later_step : (calls later x a b : ℕ) → calls ≤ later → a ≤ b → cond (nat_lt later x) 1 0 + a ≤ cond (nat_lt calls x) 1 0 + b
later_step calls later x a b up le = grind (arith, nat_tests)

pub waiting_later : (calls later : ℕ) (fails : List ℕ) → calls ≤ later → waiting later fails ≤ waiting calls fails
waiting_later calls later [] up = omega arith
waiting_later calls later (x ∷ xs) up =
    omega (arith, waiting-cons calls x xs, waiting-cons later x xs, later_step calls later x (waiting later xs) (waiting calls xs) up (waiting_later calls later xs up))

-- one that is to fail is met, and fewer are
met_step : (calls x a b : ℕ) (rest : Bool) → a ≤ b → (rest ≡ true → a + 1 ≤ b) → ((x == calls + 1) || rest) ≡ true → cond (nat_lt (calls + 1) x) 1 0 + a + 1 ≤ cond (nat_lt calls x) 1 0 + b
met_step calls x a b rest le more is = grind (arith, nat_tests)

pub waiting_met : (calls : ℕ) (fails : List ℕ) → is_numbered (calls + 1) fails ≡ true → waiting (calls + 1) fails + 1 ≤ waiting calls fails
waiting_met calls [] is = absurd (false≢true is)
waiting_met calls (x ∷ xs) is =
    omega (arith, waiting-cons calls x xs, waiting-cons (calls + 1) x xs, met_step calls x (waiting (calls + 1) xs) (waiting calls xs) (is_numbered (calls + 1) xs) (waiting_later calls (calls + 1) xs (omega arith)) (waiting_met calls xs) is)

-- there is room where there is for all that fail
pub waiting_within : (calls n : ℕ) (fails : List ℕ) → n ≡ length fails → waiting calls fails ≤ n
waiting_within calls n fails is = omega (arith, count_by-le-length (λ number. nat_lt calls number) fails)
