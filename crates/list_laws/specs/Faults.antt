-- The first element of a list that is refused, or that lacks a property.
use Rattle.std.specs.Prelude.{◌≡◌, List, ◌∷◌, ◌++◌, map, Result, Ok, Err}
use Rattle.std.specs.List.{AllByRecursion}

-- f refuses an element of the list with this fault, and gives a value of each earlier one
pub record IsFirstFault {A B E : Type 0} (f : A → Result B E) (xs : List A) (fault : E) : Type 0 where
  pub before : List A
  pub here : A
  pub after : List A
  pub split : xs ≡ before ++ here ∷ after
  pub values : List B
  pub clean : map f before ≡ map Ok values
  pub refused : f here ≡ Err fault

-- the first element that lacks a property
pub record IsFirstWithout {A : Type 0} (P : A → Type 0) (xs : List A) (here : A) : Type 0 where
  pub before : List A
  pub after : List A
  pub split : xs ≡ before ++ here ∷ after
  pub all : AllByRecursion P before
  pub lacks : ¬ (P here)
