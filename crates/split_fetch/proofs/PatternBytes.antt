-- The text of a list of patterns is ASCII.
use Rattle.std.proofs.Common.{◌≡◌, ℕ, ◌<◌, true, false, cond, not, ◌&&◌, ◌||◌, ◌==◌, nat_lt, List, [], ◌∷◌, ◌++◌, map, reverse, length, Result, Ok, Err, refl, sym, subst, arith}
use Rattle.std.specs.List.{AllByRecursion, list_all, slice_split, onto_first}
use Rattle.std.specs.Str.{IsAscii}
use Rattle.std.proofs.lemmas.Bool.{and_parts}
use Rattle.std.proofs.lemmas.Bool.Decides.{nat_tests}
use Rattle.std.proofs.lemmas.List.{reverse-append, reverse-reverse}
use Rattle.std.proofs.lemmas.Str.Ascii.{IsAscii-nil, IsAscii-cons}
use Rattle.channel_globs.specs.PatternText.{comma, space, hyphen, drop_spaces, drop_end_spaces, without_spaces, is_pattern_byte, is_blank_word, is_blank, item_of, words_of, IsPatternList}
use Rattle.channel_globs.specs.declared.nslc.Part.{Part}
use Rattle.channel_globs.specs.declared.nslc.Part.TheVariants.{Network, Station, Location, Channel}
use Rattle.channel_globs.specs.declared.patterns.GlobFault.{GlobFault}
use Rattle.channel_globs.specs.declared.patterns.GlobFault.TheVariants.{Character, Length}

abbrev IsLow : ℕ → Type 0
IsLow byte = byte < 128

abbrev AreLow : List ℕ → Type 0
AreLow bytes = AllByRecursion IsLow bytes

ascii : (bytes : List ℕ) → AreLow bytes → IsAscii bytes
ascii [] low = IsAscii-nil
ascii (b ∷ bytes) low = IsAscii-cons b bytes low.0 (ascii bytes low.1)

low_joined : (xs ys : List ℕ) → AreLow xs → AreLow ys → AreLow (xs ++ ys)
low_joined [] ys low more = more
low_joined (x ∷ xs) ys low more = (low.0, low_joined xs ys low.1 more)

low_reversed : (xs : List ℕ) → AreLow xs → AreLow (reverse xs)
low_reversed [] low = tt
low_reversed (x ∷ xs) low = subst AreLow (sym (reverse-append (x ∷ []) xs))
    (low_joined (reverse xs) (x ∷ []) (low_reversed xs low.1) (low.0, tt))

-- a text is ASCII where it is so without its spaces
low_spaced : (cs : List ℕ) → AreLow (drop_spaces cs) → AreLow cs
low_spaced [] low = tt
low_spaced (c ∷ cs) low =
    elim (c == space) as (λ b. (c == space) ≡ b → AreLow (cond b (drop_spaces cs) (c ∷ cs)) → AreLow (c ∷ cs)) [
      | true ↦ λ e h. (is_space c e, low_spaced cs h)
      | false ↦ λ _ h. h
    ] refl low
  where
    is_space : (c : ℕ) → (c == space) ≡ true → c < 128
    is_space c e = grind (arith, nat_tests)

low_untrimmed : (cs : List ℕ) → AreLow (without_spaces cs) → AreLow cs
low_untrimmed cs low =
    let front = drop_spaces cs in
    let back : AreLow (drop_spaces (reverse front)) =
    subst AreLow (reverse-reverse (drop_spaces (reverse front))) (low_reversed (drop_end_spaces front) low) in
    let whole : AreLow front = subst AreLow (reverse-reverse front) (low_reversed (reverse front) (low_spaced (reverse front) back)) in
    low_spaced cs whole

pattern_byte : (c : ℕ) → is_pattern_byte c ≡ true → c < 128
pattern_byte c h = grind (arith, nat_tests)

pattern_bytes : (cs : List ℕ) → list_all is_pattern_byte cs ≡ true → AreLow cs
pattern_bytes [] h = tt
pattern_bytes (c ∷ cs) h =
    let parts = and_parts (is_pattern_byte c) (list_all is_pattern_byte cs) h in
    (pattern_byte c parts.0, pattern_bytes cs parts.1)

two_hyphens : (a b : ℕ) → (a == hyphen && b == hyphen) ≡ true → AreLow (a ∷ b ∷ [])
two_hyphens a b h = let parts = and_parts (a == hyphen) (b == hyphen) h in (is_hyphen a parts.0, (is_hyphen b parts.1, tt))
  where
    is_hyphen : (c : ℕ) → (c == hyphen) ≡ true → c < 128
    is_hyphen c e = grind (arith, nat_tests)

blank_word : (word : List ℕ) → is_blank_word word ≡ true → AreLow word
blank_word [] h = tt
blank_word (a ∷ []) h = absurd (let e = h in (cc))
blank_word (a ∷ b ∷ []) h = two_hyphens a b h
blank_word (a ∷ b ∷ c ∷ cs) h = absurd (let e = h in (cc))

blank : (part : Part) (word : List ℕ) → is_blank part word ≡ true → AreLow word
blank Location word h = blank_word word h
blank Network word h = absurd (let e = h in (cc))
blank Station word h = absurd (let e = h in (cc))
blank Channel word h = absurd (let e = h in (cc))

-- an item that spells a pattern
abbrev rest_of : List ℕ → Result (List ℕ) GlobFault
rest_of word = cond (not (list_all is_pattern_byte word)) (Err Character)
    (cond (length word == 0 || nat_lt 8 (length word)) (Err Length) (Ok word))

spelt : (word pattern : List ℕ) → rest_of word ≡ Ok pattern → AreLow word
spelt word pattern h =
    elim (list_all is_pattern_byte word) as (λ b. list_all is_pattern_byte word ≡ b
    → cond (not b) (Err Character) (cond (length word == 0 || nat_lt 8 (length word)) (Err Length) (Ok word)) ≡ Ok pattern → AreLow word) [
      | true ↦ λ e _. pattern_bytes word e
      | false ↦ λ _ k. absurd (let e : Err Character ≡ Ok pattern = k in (cc))
    ] refl h

item : (part : Part) (word pattern : List ℕ) → item_of part word ≡ Ok pattern → AreLow word
item part word pattern h =
    elim (is_blank part word) as (λ b. is_blank part word ≡ b → cond b (Ok (space ∷ space ∷ [])) (rest_of word) ≡ Ok pattern
    → AreLow word) [
      | true ↦ λ e _. blank part word e
      | false ↦ λ _ k. spelt word pattern k
    ] refl h

items : (part : Part) (words patterns : List (List ℕ)) → map (item_of part) words ≡ map Ok patterns → AllByRecursion AreLow words
items part [] patterns h = tt
items part (w ∷ words) [] h = absurd (let e : item_of part w ∷ map (item_of part) words ≡ [] = h in (cc))
items part (w ∷ words) (p ∷ patterns) h =
    let e : item_of part w ∷ map (item_of part) words ≡ Ok p ∷ map Ok patterns = h in
    (item part w p (cc), items part words patterns (cc))

untrimmed : (pieces : List (List ℕ)) → AllByRecursion AreLow (map without_spaces pieces) → AllByRecursion AreLow pieces
untrimmed [] low = tt
untrimmed (p ∷ pieces) low = (low_untrimmed p low.0, untrimmed pieces low.1)

first_low : (x : ℕ) (pieces : List (List ℕ)) → AllByRecursion AreLow (onto_first x pieces) → IsLow x × AllByRecursion AreLow pieces
first_low x [] low = (low.0.0, tt)
first_low x (p ∷ pieces) low = (low.0.0, (low.0.1, low.1))

joined : (text : List ℕ) → AllByRecursion AreLow (slice_split (λ c. c == comma) text) → AreLow text
joined [] low = tt
joined (x ∷ xs) low =
    let pieces = slice_split (λ c. c == comma) xs in
    elim (x == comma) as (λ b. (x == comma) ≡ b → AllByRecursion AreLow (cond b ([] ∷ pieces) (onto_first x pieces)) → AreLow (x ∷ xs)) [
      | true ↦ λ e h. (is_comma x e, joined xs h.1)
      | false ↦ λ _ h. (let parts = first_low x pieces h in (parts.0, joined xs parts.1))
    ] refl low
  where
    is_comma : (c : ℕ) → (c == comma) ≡ true → c < 128
    is_comma c e = grind (arith, nat_tests)

pub list_ascii : (part : Part) (text : List ℕ) (patterns : List (List ℕ)) → IsPatternList part text patterns → IsAscii text
list_ascii part text patterns is =
    ascii text (joined text (untrimmed (slice_split (λ c. c == comma) text) (items part (words_of text) patterns is.each)))
