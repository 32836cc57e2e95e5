-- The one code of a field.
use Rattle.std.proofs.Common.{◌≡◌, ℕ, ◌≤◌, true, false, ◌||◌, List, [], ◌∷◌, length, arith, sym, ap, ◌∙◌, refl}
use Rattle.std.specs.Prelude.{Option, None, Some, IsSome, IfSome, IsTrue, MatchOption, ◌↔◌}
use Rattle.std.specs.List.{list_all}
use Rattle.std.specs.Char.{is_ascii_alphanumeric}
use Rattle.std.proofs.lemmas.Bool.{or_right}
use Rattle.channel_globs.specs.PatternText.{is_blank_word}
use Rattle.channel_globs.specs.declared.code.Code.{Code}
use Rattle.mseed_header.specs.CodeField.{IsCodeField, IsLocationField, without_fill, location_of}

-- what `Code::of` makes of the letters before the fill
pub code_or_none : (r : Option Code) (field word : List ℕ) → word ≡ without_fill field → length word ≤ 8 → list_all is_ascii_alphanumeric word ≡ true
    → IsSome r ↔ ((1 ≤ length word) × (length word ≤ 8)) → IfSome r (λ c. c ≡ word)
    → MatchOption r ((code : List ℕ) → IsCodeField field code → ⊥) (λ code. IsCodeField field code)
code_or_none None field word is small letters some value =
    λ code h.
    let same : length code ≡ length word = ap length (h.code_is ∙ sym is) in
    let one = h.some in
    let found = some.1 (omega (arith, one, same), small) in
    (cc)
code_or_none (Some c) field word is small letters some value =
    let all : IsTrue (list_all is_ascii_alphanumeric c) = ap (list_all is_ascii_alphanumeric) value ∙ letters in
    let long : 1 ≤ length c = omega (arith, (some.0 refl).0, ap length value) in
    record { code_is = value ∙ is; letters = all; some = long }

nonempty : (word : List ℕ) → is_blank_word word ≡ false → 1 ≤ length word
nonempty [] h = (cc)
nonempty (c ∷ cs) h = omega arith

location_is : (word : List ℕ) → is_blank_word word ≡ false → location_of word ≡ word
location_is word h = rw h refl

-- the same of a location that isn't blank
pub location_or_none : (r : Option Code) (field word : List ℕ) → word ≡ without_fill field → length word ≤ 8 → is_blank_word word ≡ false → list_all is_ascii_alphanumeric word ≡ true
    → IsSome r ↔ ((1 ≤ length word) × (length word ≤ 8)) → IfSome r (λ c. c ≡ word)
    → MatchOption r ((code : List ℕ) → IsLocationField field code → ⊥) (λ code. IsLocationField field code)
location_or_none None field word is small other letters some value =
    λ code h. let found = some.1 (nonempty word other, small) in (cc)
location_or_none (Some c) field word is small other letters some value =
    let all : IsTrue (is_blank_word (without_fill field) || list_all is_ascii_alphanumeric (without_fill field)) = or_right (is_blank_word (without_fill field)) (list_all is_ascii_alphanumeric (without_fill field)) (ap (list_all is_ascii_alphanumeric) (sym is) ∙ letters) in
    record { code_is = value ∙ sym (location_is word other) ∙ ap location_of is; letters = all }
