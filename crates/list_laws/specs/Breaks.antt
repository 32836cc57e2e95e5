-- A list cut into runs, each from one break to before the next, and what is made of each run.
use Rattle.std.specs.Prelude.{Bool, true, List, [], ◌∷◌, ◌++◌, if◌then◌else◌}
use Rattle.std.specs.List.{fold, flat_map}

module _ {X : Type 0} where
  -- an item before runs: the first of them stays apart where its first item breaks
  abbrev pub put_before : (X → Bool) → X → List (List X) → List (List X)
  put_before breaks x [] = (x ∷ []) ∷ []
  put_before breaks x ([] ∷ runs) = (x ∷ []) ∷ runs
  put_before breaks x ((y ∷ run) ∷ runs) = if breaks y then (x ∷ []) ∷ (y ∷ run) ∷ runs else (x ∷ y ∷ run) ∷ runs

  -- the runs of what follows some earlier items: whether an item breaks may depend on all items before it
  abbrev pub runs_after : (List X → X → Bool) → List X → List X → List (List X)
  runs_after breaks earlier [] = []
  runs_after breaks earlier (x ∷ xs) = put_before (breaks (earlier ++ x ∷ [])) x (runs_after breaks (earlier ++ x ∷ []) xs)

  abbrev pub runs_of : (List X → X → Bool) → List X → List (List X)
  runs_of breaks xs = runs_after breaks [] xs

  -- the test of an item against the one before it; where there is none, it breaks
  abbrev pub after_last : (X → X → Bool) → List X → X → Bool
  after_last test [] x = true
  after_last test (y ∷ []) x = test y x
  after_last test (y ∷ z ∷ zs) x = after_last test (z ∷ zs) x

module _ {X S : Type 0} (begin : X → S) (grow : S → X → S) where
  -- what is made of a run: of its first item, and then of each further one
  abbrev pub made_of : List X → List S
  made_of [] = []
  made_of (x ∷ xs) = fold grow (begin x) xs ∷ []

  abbrev pub made_of_each : List (List X) → List S
  made_of_each runs = flat_map made_of runs
