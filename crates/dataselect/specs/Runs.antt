-- A list cut into runs, each from one break to before the next.
use Rattle.std.specs.Prelude.{ℕ, suc, Bool, List, [], ◌∷◌, if◌then◌else◌}

module _ {X : Type 0} (breaks : X → X → Bool) where
  -- an item before runs: it is a run of its own where the first item behind it breaks from it
  abbrev pub put_before : X → List (List X) → List (List X)
  put_before x [] = (x ∷ []) ∷ []
  put_before x ([] ∷ runs) = (x ∷ []) ∷ runs
  put_before x ((y ∷ run) ∷ runs) = if breaks x y then (x ∷ []) ∷ (y ∷ run) ∷ runs else (x ∷ y ∷ run) ∷ runs

  -- the runs of a list, from break to break
  abbrev pub runs_by : List X → List (List X)
  runs_by [] = []
  runs_by (x ∷ xs) = put_before x (runs_by xs)

  -- how many items follow x without a break
  abbrev pub more_by : X → List X → ℕ
  more_by x [] = 0
  more_by x (y ∷ ys) = if breaks x y then 0 else suc (more_by y ys)

  -- how many items the first run has
  abbrev pub run_len_by : List X → ℕ
  run_len_by [] = 0
  run_len_by (x ∷ xs) = suc (more_by x xs)
