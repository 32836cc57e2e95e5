-- An answer is the only one where values are unique, faults are unique, and no value stands beside a fault.
use Rattle.std.proofs.Common.{◌≡◌, Result, Ok, Err, MatchResult, ap}
use Rattle.list_laws.specs.Only.{IsOnly}

module _ {V F : Type 0} (IsValue : V → Type 0) (IsFault : F → Type 0)
    (one_value : (a b : V) → IsValue a → IsValue b → a ≡ b) (one_fault : (f g : F) → IsFault f → IsFault g → f ≡ g) (apart : (v : V) (f : F) → IsValue v → IsFault f → ⊥) where
  only : (answer other : Result V F) → MatchResult answer IsValue IsFault → MatchResult other IsValue IsFault → other ≡ answer
  only (Ok a) (Ok b) h k = ap Ok (one_value b a k h)
  only (Ok a) (Err g) h k = absurd (apart a g h k)
  only (Err f) (Ok b) h k = absurd (apart b f k h)
  only (Err f) (Err g) h k = ap Err (one_fault g f k h)

  pub only_from : (answer : Result V F) → MatchResult answer IsValue IsFault → IsOnly IsValue IsFault answer
  only_from answer right = record { right = right; only = λ other h. only answer other right h }
