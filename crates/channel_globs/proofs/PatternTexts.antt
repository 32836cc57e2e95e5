-- Steps of the reader of a pattern list.
use Rattle.std.proofs.Common.{◌≡◌, Bool, IsTrue, ◌↔◌, ℕ, ◌+◌, ◌<◌, ◌≤◌, ◌==◌, List, [], ◌∷◌, ◌++◌, length, take, drop, get_or, map, Ok, refl, sym, ap, ◌∙◌, arith}
use Rattle.std.specs.List.{slice_split, count_by}
use Rattle.std.specs.Str.{bytes_eq}
use Rattle.std.proofs.lemmas.Slice.Eq.{bytes_eq-Decides}
use Rattle.channel_globs.specs.Matching.{star}
use Rattle.std.proofs.lemmas.List.{map-append, take-append-drop, drop_more, length-map}
use Rattle.std.proofs.lemmas.List.Splits.{length-slice_split}
use Rattle.channel_globs.specs.declared.nslc.Part.{Part}
use Rattle.channel_globs.specs.declared.patterns.GlobFault.{GlobFault}
use Rattle.channel_globs.specs.declared.patterns.GlobFault.TheVariants.{TooMany, Character, Length, OutOfMemory}
use Rattle.channel_globs.specs.PatternText.{RefusesItem, RefusesList, item_of, words_of, without_spaces, comma}

pub refused_at : (part : Part) (text : List ℕ) (fault : GlobFault) (before : List (List ℕ)) (here : List ℕ) (after : List (List ℕ)) (values : List (List ℕ)) → length (words_of text) ≤ 64 → words_of text ≡ before ++ here ∷ after → map (item_of part) before ≡ map Ok values → RefusesItem part here fault → RefusesList part text fault
refused_at part text TooMany before here after values few split clean h = absurd h
refused_at part text Character before here after values few split clean h = (few, record { before = before; here = here; after = after; split = split; values = values; clean = clean; refused = h })
refused_at part text Length before here after values few split clean h = (few, record { before = before; here = here; after = after; split = split; values = values; clean = clean; refused = h })
refused_at part text OutOfMemory before here after values few split clean h = tt

-- one item more than commas
pub word_count : (text : List ℕ) → length (words_of text) ≡ count_by (λ b. b == comma) text + 1
word_count text = length-map (slice_split (λ b. b == comma) text) without_spaces ∙ length-slice_split (λ b. b == comma) text

pub words_are : {X : Type 0} (f : X → List ℕ) (g : List ℕ → List ℕ) (xs : List X) (ys : List (List ℕ)) → map f xs ≡ ys → map g ys ≡ map (λ x. g (f x)) xs
words_are f g [] ys e = rw (← e) refl
words_are f g (x ∷ xs) ys e = rw (← e) (ap (λ r. g (f x) ∷ r) (words_are f g xs (map f xs) refl))

pub words_at : {X : Type 0} (f : X → List ℕ) (xs : List X) (i : ℕ) (d : X) → i < length xs → map f xs ≡ map f (take i xs) ++ f (get_or xs i d) ∷ map f (drop (i + 1) xs)
words_at f xs i d lt = ap (map f) (sym (take-append-drop i xs) ∙ ap (λ r. take i xs ++ r) (drop_more xs i d lt)) ∙ map-append f (take i xs) (get_or xs i d ∷ drop (i + 1) xs)

-- the one item of a list is the star
pub only_star : (items : List (List ℕ)) (item text : List ℕ) (r : Bool) → length items ≡ 1 → item ≡ get_or items 0 item → text ≡ item → r ≡ bytes_eq text (star ∷ [])
    → IsTrue r ↔ (items ≡ (star ∷ []) ∷ [])
only_star [] item text r one at is tested = absurd (omega arith)
only_star (x ∷ []) item text r one at is tested =
    let test = bytes_eq-Decides text (star ∷ []) in (
      λ h. ap (λ (y : List ℕ). y ∷ []) (sym at ∙ sym is ∙ test.0 (sym tested ∙ h)),
      λ h. let same : x ≡ star ∷ [] = cc in tested ∙ test.1 (is ∙ at ∙ same),
    )
only_star (x ∷ y ∷ xs) item text r one at is tested = absurd (omega arith)
