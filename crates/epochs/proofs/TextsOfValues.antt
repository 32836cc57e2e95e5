-- Each value that a field can have is spelled by some text.
use Rattle.std.proofs.Common.{◌≡◌, ◌<◌, ◌≤◌, ◌^◌, ◌||◌, ◌&&◌, ◌==◌, inl, inr, ℕ, Bool, true, false, cond, ℤ, [], ◌∷◌, length, Option, Some, None, refl, sym, ap, subst, ◌∙◌, arith, codes}
use Rattle.std.specs.Char.{is_ascii_alphanumeric}
use Rattle.std.specs.Prelude.{decimal, nat_le}
use Rattle.std.specs.List.{list_all}
use Rattle.std.specs.Str.Parse.{digits_value}
use Rattle.std.proofs.lemmas.Bool.Decides.{nat_tests}
use Rattle.std.proofs.lemmas.Fmt.{decimal_is_IsNumeral, length-decimal-le}
use Rattle.std.proofs.lemmas.Bool.{cases_Bool, and_parts, and_from, and_left, or_cases, eqb-true}
use Rattle.exact_time.specs.Decimals.{decimal_text, whole_of}
use Rattle.exact_time.specs.Written.{IsNameable}
use Rattle.exact_time.proofs.DecimalsWritten.{from_digits, reads_back}
use Rattle.channel_globs.specs.PatternText.{is_blank_word}
use Rattle.channel_globs.specs.declared.nslc.Part.{Part}
use Rattle.channel_globs.specs.declared.nslc.Part.TheVariants.{Network, Station, Location, Channel}
use Rattle.epochs.specs.declared.quantity.Quantity.{Quantity}
use Rattle.epochs.specs.Kinds.{Text, FieldKind, CodeOf, Words, Time, End, Required, Optional, PatternsOf, EventId, UserName, Ha1, RoleNames, EntryNumber}
use Rattle.epochs.specs.Fields.{Value, code, words, time, end, number, optional, patterns, roles, entry_number, IsField, IsEntryNumber, IsEnd, IsNumber, IsOptional, code_of, is_code_text, roles_of}
use Rattle.epochs.specs.Spellable.{IsValueOf, IsNumberOf, IfThere, is_code, is_blank_code}
use Rattle.epochs.proofs.TextsOfMoments.{text_of_moment}

no_hyphen : (a b : ℕ) → is_ascii_alphanumeric a ≡ true → (a == 45 && b == 45) ≡ false
no_hyphen a b h =
    elim (cases_Bool (a == 45)) [
      | inr other ↦ and_left (a == 45) (b == 45) other
      | inl same ↦ absurd (let f : false ≡ true = subst (λ (c : ℕ). is_ascii_alphanumeric c ≡ true) (eqb-true a 45 same) h in cc)
    ]

not_blank : (c : Text) → is_code_text Location c ≡ true → is_blank_word c ≡ false
not_blank [] h = absurd (let f : false ≡ true = h in cc)
not_blank (a ∷ []) h = refl
not_blank (a ∷ b ∷ []) h = no_hyphen a b (and_parts (is_ascii_alphanumeric a) (list_all is_ascii_alphanumeric (b ∷ [])) h).0
not_blank (a ∷ b ∷ d ∷ c) h = refl

text_of_blank : (c : Text) → is_blank_code Location c ≡ true → (text : Text) × (code_of Location text ≡ Some c)
text_of_blank (a ∷ b ∷ []) h =
    let both = and_parts (a == 32) (b == 32) h in
    ([], ap (λ (x : ℕ). Some (x ∷ 32 ∷ [])) (sym (eqb-true a 32 both.0)) ∙ ap (λ (y : ℕ). Some (a ∷ y ∷ [])) (sym (eqb-true b 32 both.1)))
text_of_blank [] h = absurd (let f : false ≡ true = h in cc)
text_of_blank (a ∷ []) h = absurd (let f : false ≡ true = h in cc)
text_of_blank (a ∷ b ∷ d ∷ c) h = absurd (let f : false ≡ true = h in cc)

text_of_letters : (part : Part) (c : Text) → is_code_text part c ≡ true → cond (is_code_text part c) (Some c) None ≡ Some c
text_of_letters part c h = ap (λ (b : Bool). cond b (Some c) None) h

text_of_code : (part : Part) (c : Text) → is_code part c ≡ true → (text : Text) × (code_of part text ≡ Some c)
text_of_code Network c h = elim (or_cases (is_code_text Network c) false h) [ inl letters ↦ (c, text_of_letters Network c letters) | inr never ↦ absurd (let f : false ≡ true = never in cc) ]
text_of_code Station c h = elim (or_cases (is_code_text Station c) false h) [ inl letters ↦ (c, text_of_letters Station c letters) | inr never ↦ absurd (let f : false ≡ true = never in cc) ]
text_of_code Channel c h = elim (or_cases (is_code_text Channel c) false h) [ inl letters ↦ (c, text_of_letters Channel c letters) | inr never ↦ absurd (let f : false ≡ true = never in cc) ]
text_of_code Location c h =
    elim (or_cases (is_code_text Location c) (is_blank_code Location c) h) [
      | inl letters ↦ (c, ap (λ (b : Bool). cond b (Some (32 ∷ 32 ∷ [])) (cond (is_code_text Location c) (Some c) None)) (not_blank c letters) ∙ text_of_letters Location c letters)
      | inr blank ↦ text_of_blank c blank
    ]

text_of_number : (quantity : Quantity) (n : ℤ) → IsNumberOf quantity n → (text : Text) × IsNumber quantity text n
text_of_number quantity n h = (decimal_text n, record { decimal = reads_back n h.small; within = h.within })

text_of_end : (micros : Option ℤ) → IfThere IsNameable micros → (text : Text) × IsEnd text micros
text_of_end None h = ([], refl)
text_of_end (Some micros) h = text_of_moment micros h

text_of_optional : (quantity : Quantity) (n : Option ℤ) → IfThere (IsNumberOf quantity) n → (text : Text) × IsOptional quantity text n
text_of_optional quantity None h = ([], refl)
text_of_optional quantity (Some n) h = text_of_number quantity n h

text_of_roles : (reader feed operator replica : Bool) → (((reader || feed) || operator) || replica) ≡ true → (text : Text) × (roles_of text ≡ Some (record { reader = reader; feed = feed; operator = operator; replica = replica }))
text_of_roles true true true true h = (codes "reader,feed,operator,replica", refl)
text_of_roles true true true false h = (codes "reader,feed,operator", refl)
text_of_roles true true false true h = (codes "reader,feed,replica", refl)
text_of_roles true true false false h = (codes "reader,feed", refl)
text_of_roles true false true true h = (codes "reader,operator,replica", refl)
text_of_roles true false true false h = (codes "reader,operator", refl)
text_of_roles true false false true h = (codes "reader,replica", refl)
text_of_roles true false false false h = (codes "reader", refl)
text_of_roles false true true true h = (codes "feed,operator,replica", refl)
text_of_roles false true true false h = (codes "feed,operator", refl)
text_of_roles false true false true h = (codes "feed,replica", refl)
text_of_roles false true false false h = (codes "feed", refl)
text_of_roles false false true true h = (codes "operator,replica", refl)
text_of_roles false false true false h = (codes "operator", refl)
text_of_roles false false false true h = (codes "replica", refl)
text_of_roles false false false false h = absurd (let f : false ≡ true = h in cc)

text_of_entry : (n : ℕ) → 1 ≤ n → n ≤ 1_000_000_000_000_000_000 → (text : Text) × IsEntryNumber text n
text_of_entry n some small =
    let wide : n < 2 ^ 64 = omega (arith, small) in
    let numeral = decimal_is_IsNumeral n wide in
    let long = length-decimal-le 19 n (omega arith) (omega (arith, small)) wide in
    let digits = from_digits (decimal n) numeral.0.1 in
    let counted : (nat_le 1 (length (decimal n)) && nat_le (length (decimal n)) 19) ≡ true = grind (arith, nat_tests, numeral.0.0, long) in
    let is : whole_of (decimal n) ≡ Some n =
    ap (λ (b : Bool). cond b (Some (digits_value 10 (decimal n))) None) (and_from _ _ counted digits) ∙ ap Some numeral.1 in
    (decimal n, record { whole = is; some = some; small = small })

pub text_of_value : (kind : FieldKind) (value : Value) → IsValueOf kind value → (text : Text) × IsField kind text value
text_of_value (CodeOf part) (code c) h = text_of_code part c h
text_of_value Words (words t) h = (t, (refl, h))
text_of_value Time (time micros) h = text_of_moment micros h
text_of_value End (end micros) h = text_of_end micros h
text_of_value (Required quantity) (number n) h = text_of_number quantity n h
text_of_value (Optional quantity) (optional n) h = text_of_optional quantity n h
text_of_value (PatternsOf part) (patterns t list) h = (t, (refl, h))
text_of_value EventId (words t) h = (t, (refl, h))
text_of_value UserName (words t) h = (t, (refl, h))
text_of_value Ha1 (words t) h = (t, (refl, h))
text_of_value RoleNames (roles r) h = text_of_roles r.reader r.feed r.operator r.replica h
text_of_value EntryNumber (entry_number n) h = text_of_entry n h.some h.small
text_of_value _ _ h = absurd h
