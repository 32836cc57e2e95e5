-- Texts of plain bytes, which are values without white space at their ends.
use Rattle.std.proofs.Common.{◌≡◌, ℕ, ◌+◌, ◌%◌, ◌<◌, ◌^◌, Bool, true, false, List, [], ◌∷◌, ◌++◌, reverse, nat_lt, refl, sym, ◌∙◌, ap, subst, arith}
use Rattle.std.specs.Prelude.{◌&&◌, decimal}
use Rattle.std.specs.List.{list_all}
use Rattle.std.specs.Char.{is_ascii_hexdigit}
use Rattle.std.proofs.lemmas.Bool.Decides.{nat_tests}
use Rattle.std.proofs.lemmas.Fmt.{decimal_by_steps}
use Rattle.std.proofs.lemmas.List.{reverse-append}
use Rattle.std.proofs.lemmas.List.Folds.{list_all-append}
use Rattle.httparse.specs.Grammar.{is_value_byte, is_ows, skip_ows}

-- a visible byte of ASCII
abbrev pub is_plain : ℕ → Bool
is_plain b = nat_lt 32 b && nat_lt b 127

pub both : (x y : Bool) → (x && y) ≡ true → (x ≡ true) × (y ≡ true)
both true y h = (refl, h)
both false y h = absurd cc

-- what follows from one test of each byte
pub list_all-then : (p q : ℕ → Bool) (xs : List ℕ) → ((b : ℕ) → p b ≡ true → q b ≡ true) → list_all p xs ≡ true → list_all q xs ≡ true
list_all-then p q [] f h = refl
list_all-then p q (x ∷ xs) f h =
    let two = both (p x) (list_all p xs) h in rw (f x two.0, list_all-then p q xs f two.1) refl

pub list_all-join : (p : ℕ → Bool) (xs ys : List ℕ) → list_all p xs ≡ true → list_all p ys ≡ true → list_all p (xs ++ ys) ≡ true
list_all-join p xs ys f g = list_all-append p xs ys ∙ rw (f, g) refl

value_of_plain : (b : ℕ) → is_plain b ≡ true → is_value_byte b ≡ true
value_of_plain b h = grind (arith, nat_tests)

pub plain_value : (xs : List ℕ) → list_all is_plain xs ≡ true → list_all is_value_byte xs ≡ true
plain_value xs h = list_all-then is_plain is_value_byte xs value_of_plain h

no_ows : (b : ℕ) → is_plain b ≡ true → is_ows b ≡ false
no_ows b h = grind (arith, nat_tests)

-- no white space is skipped before a byte that is none
pub starts_with : (b : ℕ) (xs : List ℕ) → is_ows b ≡ false → skip_ows (b ∷ xs) ≡ b ∷ xs
starts_with b xs h = rw h refl

pub ends_with : (b : ℕ) (xs : List ℕ) → is_ows b ≡ false → skip_ows (reverse (xs ++ b ∷ [])) ≡ reverse (xs ++ b ∷ [])
ends_with b xs h =
    let e : reverse (xs ++ b ∷ []) ≡ b ∷ reverse xs = reverse-append xs (b ∷ []) in
    ap skip_ows e ∙ starts_with b (reverse xs) h ∙ sym e

pub ends_so : (v xs : List ℕ) (b : ℕ) → v ≡ xs ++ b ∷ [] → is_ows b ≡ false → skip_ows (reverse v) ≡ reverse v
ends_so v xs b e h = let P : List ℕ → Type 0 = λ s. skip_ows (reverse s) ≡ reverse s in subst P (sym e) (ends_with b xs h)

plain_front : (xs : List ℕ) → list_all is_plain xs ≡ true → skip_ows xs ≡ xs
plain_front [] h = refl
plain_front (x ∷ xs) h = starts_with x xs (no_ows x (both (is_plain x) (list_all is_plain xs) h).0)

plain_reverse : (xs : List ℕ) → list_all is_plain xs ≡ true → list_all is_plain (reverse xs) ≡ true
plain_reverse [] h = refl
plain_reverse (x ∷ xs) h =
    let two = both (is_plain x) (list_all is_plain xs) h in
    subst (λ (s : List ℕ). list_all is_plain s ≡ true) (sym (reverse-append (x ∷ []) xs))
    (list_all-join is_plain (reverse xs) (x ∷ []) (plain_reverse xs two.1) (rw two.0 refl))

pub plain_ends : (xs : List ℕ) → list_all is_plain xs ≡ true → (skip_ows xs ≡ xs) × (skip_ows (reverse xs) ≡ reverse xs)
plain_ends xs h = (plain_front xs h, plain_front (reverse xs) (plain_reverse xs h))

digit_plain : (n : ℕ) → n < 10 → is_plain (48 + n) ≡ true
digit_plain n lt = grind (arith, nat_tests)

last_digit : (n : ℕ) → n % 10 < 10
last_digit n = omega arith

pub decimal_plain : (n : ℕ) → n < 2 ^ 64 → list_all is_plain (decimal n) ≡ true
decimal_plain n lt =
    decimal_by_steps (λ m ds. list_all is_plain ds ≡ true) (λ m small. rw (digit_plain m small) refl)
    (λ m ds more is. list_all-join is_plain ds ((48 + m % 10) ∷ []) is (rw (digit_plain (m % 10) (last_digit m)) refl)) n lt

hexdigit_plain : (b : ℕ) → is_ascii_hexdigit b ≡ true → is_plain b ≡ true
hexdigit_plain b h = grind (arith, nat_tests)

pub hexdigits_plain : (xs : List ℕ) → list_all is_ascii_hexdigit xs ≡ true → list_all is_plain xs ≡ true
hexdigits_plain xs h = list_all-then is_ascii_hexdigit is_plain xs hexdigit_plain h
