-- What a text spells is a value that a field can have.
use Rattle.std.proofs.Common.{◌≡◌, ℕ, ◌+◌, ◌*◌, ◌<◌, ◌||◌, ◌&&◌, ◌==◌, zero, suc, Bool, true, false, cond, ℤ, unsigned_abs, List, [], ◌∷◌, Option, Some, None, length, refl, sym, ap, subst, ◌∙◌, arith, codes}
use Rattle.std.specs.List.{list_all}
use Rattle.std.specs.Str.{bytes_eq}
use Rattle.std.proofs.lemmas.Bool.{and_parts, or_left, or_right}
use Rattle.std.proofs.lemmas.List.Splits.{length-slice_split}
use Rattle.exact_time.specs.Decimals.{Sign, Unsigned, Plus, Minus, with_sign, millionths_of, IsDecimal}
use Rattle.exact_time.proofs.Digits.{whole_bound, decimals_bound}
use Rattle.exact_time.proofs.MomentTexts.{named_is_nameable}
use Rattle.channel_globs.specs.PatternText.{comma, is_blank_word}
use Rattle.channel_globs.specs.declared.nslc.Part.{Part}
use Rattle.channel_globs.specs.declared.nslc.Part.TheVariants.{Network, Station, Location, Channel}
use Rattle.epochs.specs.declared.parts.Roles.{Roles}
use Rattle.epochs.specs.declared.quantity.Quantity.{Quantity}
use Rattle.epochs.specs.Kinds.{Text, FieldKind, CodeOf, Words, Time, End, Required, Optional, PatternsOf, EventId, UserName, Ha1, RoleNames, EntryNumber, fields_behind}
use Rattle.epochs.specs.Fields.{Value, code, words, time, end, number, optional, patterns, roles, entry_number, IsField, IsEnd, IsNumber, IsOptional, code_of, is_code_text, is_role, are_distinct, has_word, role_words, roles_named, roles_of}
use Rattle.epochs.specs.Lines.{LineValues, AreValues, IsLine}
use Rattle.epochs.proofs.SpellableWord.{spellable_is}
use Rattle.epochs.specs.Spellable.{IsSpellable, IsValueOf, AreValuesOf, IsNumberOf, is_code, is_blank_code}

pub chosen : {A : Type 0} (b : Bool) (x y : A) → cond b (Some x) None ≡ Some y → (b ≡ true) × (x ≡ y)
chosen true x y e = (refl, cc)
chosen false x y e = absurd (let f : None ≡ Some y = e in cc)

written_code : (part : Part) (text c : Text) → cond (is_code_text part text) (Some text) None ≡ Some c → is_code part c ≡ true
written_code part text c e =
    let f = chosen (is_code_text part text) text c e in
    or_left (is_code_text part c) (is_blank_code part c) (subst (λ (t : Text). is_code_text part t ≡ true) f.1 f.0)

code_is_kept : (part : Part) (text c : Text) → code_of part text ≡ Some c → is_code part c ≡ true
code_is_kept Network text c e = written_code Network text c e
code_is_kept Station text c e = written_code Station text c e
code_is_kept Channel text c e = written_code Channel text c e
code_is_kept Location text c e = by_test (is_blank_word text) e
  where
    by_test : (blank : Bool) → cond blank (Some (32 ∷ 32 ∷ [])) (cond (is_code_text Location text) (Some text) None) ≡ Some c → is_code Location c ≡ true
    by_test true e = let same : 32 ∷ 32 ∷ [] ≡ c = cc in subst (λ (t : Text). is_code Location t ≡ true) same refl
    by_test false e = written_code Location text c e

size_with_sign : (sign : Sign) (n : ℕ) → unsigned_abs (with_sign sign n) ≡ n
size_with_sign Unsigned n = refl
size_with_sign Plus n = refl
size_with_sign Minus zero = refl
size_with_sign Minus (suc n) = refl

below_all : (w d n : ℕ) → w < 1_000_000_000_000_000_000 → d < 1_000_000 → n ≡ w * 1_000_000 + d → n < 1_000_000_000_000_000_000_000_000
below_all w d n whole decimals e = omega arith

decimal_is_small : (text : Text) (n : ℤ) → IsDecimal text n → unsigned_abs n < 1_000_000_000_000_000_000_000_000
decimal_is_small text n h =
    let size = ap unsigned_abs h.value ∙ size_with_sign h.sign (millionths_of h.whole h.decimals) in
    below_all _ _ (unsigned_abs n) (whole_bound h.whole h.form.whole_digits h.short) (decimals_bound h.decimals h.form.decimal_digits h.form.few) size

number_is_kept : (quantity : Quantity) (text : Text) (n : ℤ) → IsNumber quantity text n → IsNumberOf quantity n
number_is_kept quantity text n h = record { small = decimal_is_small text n h.decimal; within = h.within }

end_is_kept : (text : Text) (n : Option ℤ) → IsEnd text n → IsValueOf End (end n)
end_is_kept text None h = tt
end_is_kept text (Some n) h = named_is_nameable text n h

optional_is_kept : (quantity : Quantity) (text : Text) (n : Option ℤ) → IsOptional quantity text n → IsValueOf (Optional quantity) (optional n)
optional_is_kept quantity text None h = tt
optional_is_kept quantity text (Some n) h = number_is_kept quantity text n h

-- a word that is one of four is one of them among others too
one_of_four : (a b c d a' b' c' d' : Bool) → (((a || b) || c) || d) ≡ true → ((((a || a') || (b || b')) || (c || c')) || (d || d')) ≡ true
one_of_four true b c d a' b' c' d' h = refl
one_of_four false true c d a' b' c' d' h = or_left ((a' || true) || (c || c')) (d || d') (or_left (a' || true) (c || c') (or_right a' true refl))
one_of_four false false true d a' b' c' d' h = or_left ((a' || b') || true) (d || d') (or_right (a' || b') true refl)
one_of_four false false false true a' b' c' d' h = or_right ((a' || b') || c') true refl
one_of_four false false false false a' b' c' d' h = absurd (let f : false ≡ true = h in cc)

some_role : (names : List Text) → 0 < length names → list_all is_role names ≡ true → IsValueOf RoleNames (roles (roles_named names))
some_role [] some all = absurd (omega (arith, some))
some_role (name ∷ names) some all =
    let first = (and_parts (is_role name) (list_all is_role names) all).0 in
    one_of_four (bytes_eq name (codes "reader")) (bytes_eq name (codes "feed")) (bytes_eq name (codes "operator")) (bytes_eq name (codes "replica"))
    (has_word (codes "reader") names) (has_word (codes "feed") names) (has_word (codes "operator") names) (has_word (codes "replica") names) first

roles_are_kept : (text : Text) (r : Roles) → roles_of text ≡ Some r → IsValueOf RoleNames (roles r)
roles_are_kept text r e =
    let f = chosen (list_all is_role (role_words text) && are_distinct (role_words text)) (roles_named (role_words text)) r e in
    let all = (and_parts (list_all is_role (role_words text)) (are_distinct (role_words text)) f.0).0 in
    let count = length-slice_split (λ (c : ℕ). c == comma) text in
    subst (λ (s : Roles). IsValueOf RoleNames (roles s)) f.1 (some_role (role_words text) (omega (arith, count)) all)

pub spelled_is_value : (kind : FieldKind) (text : Text) (value : Value) → IsField kind text value → IsValueOf kind value
spelled_is_value (CodeOf part) text (code c) h = code_is_kept part text c h
spelled_is_value Words text (words t) h = subst (λ (s : Text). IsValueOf Words (words s)) (sym h.0) h.1
spelled_is_value Time text (time micros) h = named_is_nameable text micros h
spelled_is_value End text (end micros) h = end_is_kept text micros h
spelled_is_value (Required quantity) text (number n) h = number_is_kept quantity text n h
spelled_is_value (Optional quantity) text (optional n) h = optional_is_kept quantity text n h
spelled_is_value (PatternsOf part) text (patterns t list) h = subst (λ (s : Text). IsValueOf (PatternsOf part) (patterns s list)) (sym h.0) h.1
spelled_is_value EventId text (words t) h = subst (λ (s : Text). IsValueOf EventId (words s)) (sym h.0) h.1
spelled_is_value UserName text (words t) h = subst (λ (s : Text). IsValueOf UserName (words s)) (sym h.0) h.1
spelled_is_value Ha1 text (words t) h = subst (λ (s : Text). IsValueOf Ha1 (words s)) (sym h.0) h.1
spelled_is_value RoleNames text (roles r) h = roles_are_kept text r h
spelled_is_value EntryNumber text (entry_number n) h = record { some = h.some; small = h.small }
spelled_is_value _ text _ h = absurd h

pub spelled_are_values : (kinds : List FieldKind) (texts : List Text) (values : List Value) → AreValues kinds texts values → AreValuesOf kinds values
spelled_are_values [] [] [] h = tt
spelled_are_values (kind ∷ kinds) (text ∷ texts) (value ∷ values) h = (spelled_is_value kind text value h.0, spelled_are_values kinds texts values h.1)
spelled_are_values _ _ _ h = absurd h

pub line_is_spellable : (text : Text) (e : LineValues) → IsLine text e → IsSpellable e
line_is_spellable text e h = spellable_is e (record { values_are = spelled_are_values (fields_behind e.head) h.rest e.values h.spells; in_order = h.in_order })
