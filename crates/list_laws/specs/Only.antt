-- The one right answer of a reader.
use Rattle.std.specs.Prelude.{◌≡◌, Result, MatchResult}

-- The answer is right, and no other value or fault is: of all values and faults there is exactly one.
pub record IsOnly {V F : Type 0} (IsValue : V → Type 0) (IsFault : F → Type 0) (answer : Result V F) : Type 0 where
  pub right : MatchResult answer IsValue IsFault
  pub only : (other : Result V F) → MatchResult other IsValue IsFault → other ≡ answer
