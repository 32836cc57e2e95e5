-- What a pattern matches: `*` any run of characters, `?` one character, another character itself
-- (FDSN Web Service Specifications 1.2, dataselect, channel options).
use Rattle.std.specs.Prelude.{◌≡◌, ℕ, ◌-◌, ◌≤◌, Bool, false, IsTrue, ◌↔◌, ◌==◌, ◌&&◌, ◌||◌, ◌⊎◌, not, if◌then◌else◌, List, [], ◌∷◌, length, drop, MatchBool, Option, Some, None}
use Rattle.std.specs.List.{list_any, list_all}
use Rattle.channel_globs.specs.declared.matching.Front.{Front}
use Rattle.channel_globs.specs.declared.matching.Front.TheVariants.{Done, Star}

abbrev pub star : ℕ
star = 42

abbrev pub question_mark : ℕ
question_mark = 63

-- a character other than * takes one byte: ? any, and another itself
abbrev pub Takes : ℕ → List ℕ → Type 0
Takes p [] = ⊥
Takes p (c ∷ cs) = (p ≡ question_mark) ⊎ (p ≡ c)

-- The empty pattern matches the empty code. A * before ps matches where ps matches some suffix.
-- Another character before ps matches where it takes a byte and ps matches the rest.
abbrev pub Matches : List ℕ → List ℕ → Type 0
Matches [] code = code ≡ []
Matches (p ∷ ps) code =
    MatchBool (p == star) ((n : ℕ) × Matches ps (drop n code)) (Takes p code × Matches ps (drop 1 code))

-- The same as a test, by which lists are filtered.
abbrev pub takes : ℕ → List ℕ → Bool
takes p [] = false
takes p (c ∷ cs) = (p == question_mark) || (p == c)

abbrev pub some_suffix : (List ℕ → Bool) → List ℕ → Bool
some_suffix test [] = test []
some_suffix test (c ∷ cs) = test (c ∷ cs) || some_suffix test cs

abbrev pub is_match : List ℕ → List ℕ → Bool
is_match [] code = length code == 0
is_match (p ∷ ps) code = if p == star then some_suffix (is_match ps) code else takes p code && is_match ps (drop 1 code)

-- some pattern of the list matches
abbrev pub is_match_any : List (List ℕ) → List ℕ → Bool
is_match_any patterns code = list_any (λ pattern. is_match pattern code) patterns

-- the character stands for itself alone
abbrev pub is_plain : ℕ → Bool
is_plain c = not ((c == star) || (c == question_mark))

-- the one pattern of a list that has one alone, where that has no wildcard
abbrev pub single_code : List (List ℕ) → Option (List ℕ)
single_code [] = None
single_code (pattern ∷ []) = if list_all is_plain pattern then Some pattern else None
single_code (pattern ∷ other ∷ more) = None

-- To match a pattern comes to matching glob at what is left of the code.
pub record LeadsTo (pattern code glob left : List ℕ) : Type 0 where
  pub shorter : length glob ≤ length pattern
  pub within : length left ≤ length code
  pub suffix : left ≡ drop (length code - length left) code
  pub enough : Matches glob left → Matches pattern code
  pub needed : (xs : List ℕ) → Matches pattern xs → Matches glob (drop (length code - length left) xs)

abbrev pub Leads : List ℕ → List ℕ → Front → Type 0
Leads pattern code (Done answer) = IsTrue answer ↔ Matches pattern code
Leads pattern code (Star after rest) = LeadsTo pattern code (star ∷ after.now) rest.now
