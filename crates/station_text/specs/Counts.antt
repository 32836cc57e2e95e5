-- Codes of which equal ones stand together are counted by comparing each with the one before.
use Rattle.std.specs.Prelude.{ℕ, Bool, false, List, [], ◌∷◌, Option, Some, None, if◌then◌else◌}
use Rattle.std.specs.Str.{bytes_eq}

-- a code is the last that was counted
abbrev pub is_last : Option (List ℕ) → List ℕ → Bool
is_last None code = false
is_last (Some last) code = bytes_eq last code

-- the codes without those that are the one before
abbrev pub each_once : Option (List ℕ) → List (List ℕ) → List (List ℕ)
each_once last [] = []
each_once last (code ∷ codes) = if is_last last code then each_once last codes else code ∷ each_once (Some code) codes
