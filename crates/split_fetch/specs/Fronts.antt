-- The fronts of answers: how many entries the archive had that gave each.
use Rattle.std.specs.Prelude.{ℕ, ◌==◌, List, [], ◌∷◌, map, Option, None, Some, if◌then◌else◌}
use Rattle.split_fetch.specs.declared.answer.WindowAnswer.{WindowAnswer}

abbrev pub fronts_of : List WindowAnswer → List ℕ
fronts_of answers = map (λ answer. answer.front) answers

-- the first two neighbours that differ
abbrev pub first_move : List ℕ → Option (ℕ × ℕ)
first_move [] = None
first_move (a ∷ []) = None
first_move (a ∷ b ∷ fronts) = if a == b then first_move (b ∷ fronts) else Some (a, b)
