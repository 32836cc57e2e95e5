-- Fields, one after the other, and names in lower case.
use Rattle.std.proofs.Common.{◌≡◌, ℕ, ◌+◌, ◌<◌, ◌≤◌, Bool, true, false, not, List, [], ◌∷◌, length, get_or, drop, map, refl, sym, ◌∙◌, ap, suc, arith, add-one, drop-cons, nat_lt, inl, inr, ◌⊎◌}
use Rattle.std.specs.Prelude.{◌||◌, ◌&&◌, codes}
use Rattle.std.specs.List.{list_any, list_all}
use Rattle.std.specs.Char.{to_ascii_lowercase, is_ascii_alphanumeric, is_ascii_uppercase}
use Rattle.std.specs.Str.{str_to_ascii_lowercase}
use Rattle.std.proofs.lemmas.Bool.{cond-true, cond-false, cases_lt}
use Rattle.std.proofs.lemmas.Bool.Decides.{nat_tests}
use Rattle.httparse.specs.Grammar.{is_token_byte, is_token}
use Rattle.http_wire.specs.declared.field.Field.{Field}
use denote.Bor.{Bor}
use Rattle.http_wire.specs.FieldPairs.{as_pair}
use Rattle.http_wire.specs.Heads.{is_field, first_length, length_in, is_lower_token}

-- the fields from one on are that one and those behind it
opened : (fields : List Field) (i : ℕ) (field : Field) → i < length fields → field ≡ get_or fields i field
    → drop i fields ≡ field ∷ drop (i + 1) fields
opened fields i field lt e = rw (add-one, drop-cons fields i field) (ap (λ (f : Field). f ∷ drop (suc i) fields) (sym e))

pub first_here : (fields : List Field) (i : ℕ) (field : Field) → i < length fields → field ≡ get_or fields i field
    → is_field (codes "content-length") (as_pair field) ≡ true → first_length (map as_pair (drop i fields)) ≡ length_in field.value
first_here fields i field lt e is =
    ap (λ (fs : List Field). first_length (map as_pair fs)) (opened fields i field lt e) ∙ cond-true _ _ _ is

pub first_behind : (fields : List Field) (i : ℕ) (field : Field) → i < length fields → field ≡ get_or fields i field
    → is_field (codes "content-length") (as_pair field) ≡ false → first_length (map as_pair (drop i fields)) ≡ first_length (map as_pair (drop (i + 1) fields))
first_behind fields i field lt e isnt =
    ap (λ (fs : List Field). first_length (map as_pair fs)) (opened fields i field lt e) ∙ cond-false _ _ _ isnt

-- a letter of a token in lower case is a byte of a token, and no letter in upper case
lower_letter : (b : ℕ) → 65 ≤ b → b < 91 → (is_token_byte (to_ascii_lowercase b) ≡ true) × (not (is_ascii_uppercase (to_ascii_lowercase b)) ≡ true)
unfolding is_token_byte
lower_letter b low high =
    let e : to_ascii_lowercase b ≡ b + 32 = grind (arith, nat_tests) in
    let alpha : is_ascii_alphanumeric (b + 32) ≡ true = grind (arith, nat_tests) in
    let small : not (is_ascii_uppercase (b + 32)) ≡ true = grind (arith, nat_tests) in
    (rw (e, alpha) refl, rw e small)

lower_other : (b : ℕ) → (b < 65) ⊎ (91 ≤ b) → is_token_byte b ≡ true → (is_token_byte (to_ascii_lowercase b) ≡ true) × (not (is_ascii_uppercase (to_ascii_lowercase b)) ≡ true)
lower_other b out token =
    let e : to_ascii_lowercase b ≡ b = elim out [ inl lt ↦ grind (arith, nat_tests, lt) | inr ge ↦ grind (arith, nat_tests, ge) ] in
    let small : not (is_ascii_uppercase b) ≡ true = elim out [ inl lt ↦ grind (arith, nat_tests, lt) | inr ge ↦ grind (arith, nat_tests, ge) ] in
    (rw e token, rw e small)

lower_byte : (b : ℕ) → is_token_byte b ≡ true → (is_token_byte (to_ascii_lowercase b) ≡ true) × (not (is_ascii_uppercase (to_ascii_lowercase b)) ≡ true)
lower_byte b token = elim (cases_lt b 65) [
  | inl lt ↦ lower_other b (inl lt) token
  | inr ge ↦ elim (cases_lt b 91) [ inl high ↦ lower_letter b ge high | inr out ↦ lower_other b (inr out) token ]
]

both : (x y : Bool) → (x && y) ≡ true → (x ≡ true) × (y ≡ true)
both true y h = (refl, h)
both false y h = absurd cc

lower_bytes : (text : List ℕ) → list_all is_token_byte text ≡ true
    → (list_all is_token_byte (str_to_ascii_lowercase text) ≡ true) × (list_all (λ b. not (is_ascii_uppercase b)) (str_to_ascii_lowercase text) ≡ true)
lower_bytes [] h = (refl, refl)
lower_bytes (b ∷ bytes) h =
    let parts = both (is_token_byte b) (list_all is_token_byte bytes) h in
    let one = lower_byte b parts.0 in
    let others = lower_bytes bytes parts.1 in
    (rw (one.0, others.0) refl, rw (one.1, others.1) refl)

same_length : (text : List ℕ) → length (str_to_ascii_lowercase text) ≡ length text
same_length [] = refl
same_length (b ∷ bytes) = ap suc (same_length bytes)

-- a token in lower case is one without upper case
pub lower_token : (text : List ℕ) → is_token text ≡ true → is_lower_token (str_to_ascii_lowercase text) ≡ true
lower_token text h =
    let parts = both (nat_lt 0 (length text)) (list_all is_token_byte text) h in
    let bytes = lower_bytes text parts.1 in
    rw (same_length text, parts.0, bytes.0, bytes.1) refl

-- a test of what is lent is one of what is seen
pub any_seen : (p : List ℕ → Bool) (items : List (Bor (List ℕ))) → list_any (λ x. p x.now) items ≡ list_any p (map (λ x. x.now) items)
any_seen p [] = refl
any_seen p (x ∷ xs) = ap (λ b. p x.now || b) (any_seen p xs)
