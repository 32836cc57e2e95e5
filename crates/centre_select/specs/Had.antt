-- What a source or a disk had.
use Rattle.std.specs.Prelude.{◌≡◌, ℕ, ◌<◌, List, length, ⊤, Some, None}
use Rattle.std.specs.declared.option.Option.{Option}

-- it had these bytes, where it tells
abbrev pub Had : Option (List ℕ) → List ℕ → Type 0
Had None input = ⊤
Had (Some xs) input = xs ≡ input

-- the source had an input longer than the limit
pub record HadMore (left : Option (List ℕ)) (limit : ℕ) : Type 0 where
  pub input : List ℕ
  pub had : Had left input
  pub long : limit < length input
