-- How pattern lists are spelt, and their faults (FDSN Web Service Specifications 1.2, dataselect,
-- channel options).
use Rattle.std.specs.Prelude.{◌≡◌, ℕ, ◌≤◌, ◌<◌, Bool, true, false, ◌==◌, ◌||◌, ◌&&◌, not, List, [], ◌∷◌, length, map, reverse, if◌then◌else◌, Result, Ok, Err, nat_lt, ⊤}
use Rattle.std.specs.List.{slice_split, list_all}
use Rattle.std.specs.Char.{is_ascii_alphanumeric}
use Rattle.list_laws.specs.Faults.{IsFirstFault}
use Rattle.channel_globs.specs.Matching.{star, question_mark}
use Rattle.channel_globs.specs.declared.nslc.Part.{Part}
use Rattle.channel_globs.specs.declared.nslc.Part.TheVariants.{Location}
use Rattle.channel_globs.specs.declared.patterns.GlobFault.{GlobFault}
use Rattle.channel_globs.specs.declared.patterns.GlobFault.TheVariants.{TooMany, Character, Length, OutOfMemory}

abbrev pub comma : ℕ
comma = 44

abbrev pub space : ℕ
space = 32

abbrev pub hyphen : ℕ
hyphen = 45

abbrev pub drop_spaces : List ℕ → List ℕ
drop_spaces [] = []
drop_spaces (c ∷ cs) = if c == space then drop_spaces cs else c ∷ cs

abbrev pub drop_end_spaces : List ℕ → List ℕ
drop_end_spaces cs = reverse (drop_spaces (reverse cs))

-- without the spaces round it
abbrev pub without_spaces : List ℕ → List ℕ
without_spaces cs = drop_end_spaces (drop_spaces cs)

-- a letter, a digit or a wildcard
abbrev pub is_pattern_byte : ℕ → Bool
is_pattern_byte c = is_ascii_alphanumeric c || c == star || c == question_mark

-- the words that stand for the blank location: none, and two hyphens
abbrev pub is_blank_word : List ℕ → Bool
is_blank_word [] = true
is_blank_word (a ∷ b ∷ []) = a == hyphen && b == hyphen
is_blank_word _ = false

abbrev pub is_blank : Part → List ℕ → Bool
is_blank Location word = is_blank_word word
is_blank _ word = false

-- the pattern that an item spells, or its fault
abbrev pub item_of : Part → List ℕ → Result (List ℕ) GlobFault
item_of part word =
    if is_blank part word then Ok (space ∷ space ∷ [])
    else (if not (list_all is_pattern_byte word) then Err Character
    else (if length word == 0 || nat_lt 8 (length word) then Err Length else Ok word))

-- what stands between the commas of a list, without the spaces round it
abbrev pub words_of : List ℕ → List (List ℕ)
words_of text = map without_spaces (slice_split (λ c. c == comma) text)

-- the text spells these patterns
pub record IsPatternList (part : Part) (text : List ℕ) (patterns : List (List ℕ)) : Type 0 where
  pub few : length (words_of text) ≤ 64
  pub each : map (item_of part) (words_of text) ≡ map Ok patterns

-- there are too many items, or else the first faulty one has this fault
abbrev pub IsListFault : Part → List ℕ → GlobFault → Type 0
IsListFault part text TooMany = 64 < length (words_of text)
IsListFault part text Character = (length (words_of text) ≤ 64) × IsFirstFault (item_of part) (words_of text) Character
IsListFault part text Length = (length (words_of text) ≤ 64) × IsFirstFault (item_of part) (words_of text) Length
IsListFault part text OutOfMemory = ⊥

-- why no list was read; want of memory is free
abbrev pub RefusesList : Part → List ℕ → GlobFault → Type 0
RefusesList part text OutOfMemory = ⊤
RefusesList part text TooMany = IsListFault part text TooMany
RefusesList part text Character = IsListFault part text Character
RefusesList part text Length = IsListFault part text Length

-- the faults of one item
abbrev pub RefusesItem : Part → List ℕ → GlobFault → Type 0
RefusesItem part word TooMany = ⊥
RefusesItem part word Character = item_of part word ≡ Err Character
RefusesItem part word Length = item_of part word ≡ Err Length
RefusesItem part word OutOfMemory = ⊥
