-- The text of some lines, or why there is none.
use Rattle.std.specs.Prelude.{◌≡◌, ℕ, List, [], ◌∷◌, length, Result, Ok, Err, nat_lt, if◌then◌else◌, ⊤}
use Rattle.exact_time.specs.declared.error.TextRefusal.{TextRefusal}
use Rattle.exact_time.specs.declared.error.TextRefusal.TheVariants.{Empty, TooLarge, OutOfMemory}
use Rattle.epochs.specs.Kinds.{Text}

-- the text of these lines, where they are at most so many
abbrev pub text_within : {E : Type 0} → (List E → Text) → ℕ → List E → Result Text TextRefusal
text_within text most lines = if nat_lt most (length lines) then Err (TooLarge (length lines)) else Ok (text lines)

-- and there is at least one
abbrev pub text_or_empty : {E : Type 0} → (List E → Text) → ℕ → List E → Result Text TextRefusal
text_or_empty text most [] = Err Empty
text_or_empty text most (e ∷ lines) = text_within text most (e ∷ lines)

-- a refusal is that of the answer; want of memory is free
abbrev pub RefusesTextAs : Result Text TextRefusal → TextRefusal → Type 0
RefusesTextAs answer Empty = answer ≡ Err Empty
RefusesTextAs answer (TooLarge n) = answer ≡ Err (TooLarge n)
RefusesTextAs answer OutOfMemory = ⊤
