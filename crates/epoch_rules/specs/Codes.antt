-- The codes of a key that is kept without its line.
use Rattle.std.specs.Prelude.{◌≡◌, ⊤, [], ◌∷◌, Option, Some, None, refl}
use Rattle.epochs.specs.Kinds.{Text}

-- the text of a code, or of none
abbrev pub text_of_code : Option Text → Text
text_of_code None = []
text_of_code (Some code) = code

-- and the code again
abbrev pub code_of_text : Text → Option Text
code_of_text [] = None
code_of_text (byte ∷ bytes) = Some (byte ∷ bytes)

-- a code, if there is one, isn't empty
abbrev pub IsNotEmpty : Option Text → Type 0
IsNotEmpty None = ⊤
IsNotEmpty (Some []) = ⊥
IsNotEmpty (Some (byte ∷ bytes)) = ⊤

pub code_again : (code : Option Text) → IsNotEmpty code → code_of_text (text_of_code code) ≡ code
code_again None h = refl
code_again (Some []) h = absurd h
code_again (Some (byte ∷ bytes)) h = refl
