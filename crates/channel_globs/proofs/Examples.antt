-- Worked examples of the definitions.
use Rattle.std.proofs.Common.{◌≡◌, true, false, refl, codes, Ok, Err, [], ◌∷◌, inl, inr, arith}
use Rattle.channel_globs.specs.Matching.{Matches, is_match}
use Rattle.channel_globs.specs.PatternText.{item_of, words_of, IsPatternList, RefusesList}
use Rattle.channel_globs.specs.declared.nslc.Part.TheVariants.{Location, Channel}
use Rattle.channel_globs.specs.declared.patterns.GlobFault.TheVariants.{Character, Length}

-- a question mark takes one character, a star any
one_character : is_match (codes "BH?") (codes "BHZ") ≡ true
one_character = refl

not_none : is_match (codes "BH?") (codes "BH") ≡ false
not_none = refl

blank_by_two : is_match (codes "??") (codes "  ") ≡ true
blank_by_two = refl

blank_by_star : is_match (codes "*") (codes "  ") ≡ true
blank_by_star = refl

-- items stand between commas, without the spaces round them
items : words_of (codes "LHZ, B*Z ") ≡ codes "LHZ" ∷ codes "B*Z" ∷ []
items = refl

blank_location : item_of Location (codes "--") ≡ Ok (codes "  ")
blank_location = refl

no_hyphen : item_of Channel (codes "--") ≡ Err Character
no_hyphen = refl

no_empty_channel : item_of Channel [] ≡ Err Length
no_empty_channel = refl

-- the first faulty item decides
list : IsPatternList Channel (codes "LHZ, B*Z ") (codes "LHZ" ∷ codes "B*Z" ∷ [])
list = record { few = omega arith; each = refl }

refused : RefusesList Channel (codes "LHZ,B-Z,") Character
refused = (
  omega arith,
  record {
    before = codes "LHZ" ∷ [];
    here = codes "B-Z";
    after = [] ∷ [];
    split = refl;
    values = codes "LHZ" ∷ [];
    clean = refl;
    refused = refl;
  },
)

-- the same as a relation: the star stands for one character
star_for_one : Matches (codes "B*?") (codes "BHZ")
star_for_one = (inr refl, (1, (inl refl, refl)))
