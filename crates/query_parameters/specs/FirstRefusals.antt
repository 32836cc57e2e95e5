-- The first refused element of a list, where what is taken or refused depends on those before it.
use Rattle.std.specs.Prelude.{◌≡◌, List, [], ◌∷◌, ◌++◌, ⊤}

-- each element is taken, behind those before it
abbrev pub AreTaken : {A : Type 0} → (List A → A → Type 0) → List A → List A → Type 0
AreTaken Takes before [] = ⊤
AreTaken Takes before (x ∷ xs) = Takes before x × AreTaken Takes (before ++ x ∷ []) xs

-- an element is refused with this fault, and each before it is taken
pub record IsFirstRefusal {A F : Type 0} (Takes : List A → A → Type 0) (Refuses : List A → A → F → Type 0) (xs : List A) (fault : F) : Type 0 where
  pub before : List A
  pub here : A
  pub after : List A
  pub split : xs ≡ before ++ here ∷ after
  pub taken : AreTaken Takes [] before
  pub refused : Refuses before here fault
