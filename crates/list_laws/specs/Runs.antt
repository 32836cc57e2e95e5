-- Steps that may be refused, one for each element of a list.
use Rattle.std.specs.Prelude.{◌≡◌, ℕ, ◌+◌, List, [], ◌∷◌, ◌++◌, Result, Ok, Err, length}

abbrev pub and_then : {S T E : Type 0} → Result S E → (S → Result T E) → Result T E
and_then (Ok x) f = f x
and_then (Err e) f = Err e

-- the state after the elements, of which the first has number n, or the first refusal
abbrev pub run_from : {S A E : Type 0} → (ℕ → S → A → Result S E) → ℕ → S → List A → Result S E
run_from step n s [] = Ok s
run_from step n s (x ∷ xs) = and_then (step n s x) (λ t. run_from step (n + 1) t xs)

-- an element is refused with this fault, and each before it is taken
pub record IsFirstRefused {S A E : Type 0} (step : ℕ → S → A → Result S E) (n : ℕ) (s : S) (xs : List A) (fault : E) : Type 0 where
  pub before : List A
  pub here : A
  pub after : List A
  pub split : xs ≡ before ++ here ∷ after
  pub state : S
  pub clean : run_from step n s before ≡ Ok state
  pub refused : step (n + length before) state here ≡ Err fault
