-- How a code stands in a field of fixed length: from its left end, filled up with spaces (SEED 2.4,
-- fixed section of data header, fields 4 to 7) or, in some writers' records, with NUL bytes.
use Rattle.std.specs.Prelude.{◌≡◌, ◌==◌, ◌||◌, ℕ, Bool, ◌≤◌, List, [], ◌∷◌, length, reverse, IsTrue, if◌then◌else◌}
use Rattle.std.specs.List.{list_all}
use Rattle.std.specs.Char.{is_ascii_alphanumeric}
use Rattle.channel_globs.specs.PatternText.{is_blank_word}

-- a space or a NUL byte
abbrev pub is_fill : ℕ → Bool
is_fill c = c == 32 || c == 0

abbrev pub drop_fill : List ℕ → List ℕ
drop_fill [] = []
drop_fill (c ∷ cs) = if is_fill c then drop_fill cs else c ∷ cs

-- the field without the fill at its end
abbrev pub without_fill : List ℕ → List ℕ
without_fill field = reverse (drop_fill (reverse field))

-- the field holds this code: letters and digits, at least one
pub record IsCodeField (field code : List ℕ) : Type 0 where
  pub code_is : code ≡ without_fill field
  pub letters : IsTrue (list_all is_ascii_alphanumeric code)
  pub some : 1 ≤ length code

-- the blank location is two spaces; it is written as nothing or as two hyphens
abbrev pub location_of : List ℕ → List ℕ
location_of word = if is_blank_word word then 32 ∷ 32 ∷ [] else word

-- the field holds this location: the blank one, or letters and digits
pub record IsLocationField (field code : List ℕ) : Type 0 where
  pub code_is : code ≡ location_of (without_fill field)
  pub letters : IsTrue (is_blank_word (without_fill field) || list_all is_ascii_alphanumeric (without_fill field))
