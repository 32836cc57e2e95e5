-- Digits, and the number that they stand for.
use Rattle.std.proofs.Common.{◌≡◌, ℕ, ◌+◌, ◌*◌, ◌-◌, ◌<◌, ◌^◌, ◌≤◌, zero, suc, true, List, [], ◌∷◌, length, take, get_or, ap, sym, subst, ◌∙◌, arith, lit<}
use Rattle.std.specs.List.{list_all}
use Rattle.std.specs.Char.{is_ascii_digit, digit_value}
use Rattle.std.specs.Str.Parse.{AllDigits, digits_value}
use Rattle.std.proofs.lemmas.Bool.{and_parts}
use Rattle.std.proofs.lemmas.Bool.Decides.{nat_tests}
use Rattle.std.proofs.lemmas.Str.{digit_value_digit}
use Rattle.std.proofs.lemmas.Str.Parse.{digits_value-take-le}
use Rattle.std.proofs.lemmas.Int.Digits.{digits_value-lt, digits_value_more}
use Rattle.std.proofs.Math.Nat.{pow-le-pow_right, one-le-pow, mul-lt-mul_of_pos_right}
use Rattle.std.proofs.lemmas.Nat.{pow-add}

pub in_range : (c : ℕ) → is_ascii_digit c ≡ true → (48 ≤ c) × (c ≤ 57)
in_range c h = (grind (arith, nat_tests), grind (arith, nat_tests))

pub all_digits : (text : List ℕ) → list_all is_ascii_digit text ≡ true → AllDigits 10 text
all_digits [] h = tt
all_digits (c ∷ cs) h =
    let p = and_parts (is_ascii_digit c) (list_all is_ascii_digit cs) h in
    let r = in_range c p.0 in
    let v = digit_value_digit c r in
    (omega (arith, v), all_digits cs p.1)

pub digit_at : (text : List ℕ) (i : ℕ) → list_all is_ascii_digit text ≡ true → i < length text → (48 ≤ get_or text i 0) × (get_or text i 0 ≤ 57)
digit_at [] i h lt = absurd (omega arith)
digit_at (c ∷ cs) zero h lt = in_range c (and_parts (is_ascii_digit c) (list_all is_ascii_digit cs) h).0
digit_at (c ∷ cs) (suc i) h lt = digit_at cs i (and_parts (is_ascii_digit c) (list_all is_ascii_digit cs) h).1 (omega arith)

pub value_bound : (text : List ℕ) → list_all is_ascii_digit text ≡ true → digits_value 10 text < 10 ^ length text
value_bound text h = digits_value-lt 10 text (all_digits text h)

-- the number of the digits up to one more stays within 64 bits
pub value_fits : (text : List ℕ) (i : ℕ) → list_all is_ascii_digit text ≡ true → length text ≤ 19 → i < length text → digits_value 10 (take i text) * 10 + digit_value (get_or text i 0) < 2 ^ 64
value_fits text i h short lt =
    let a = digits_value_more 10 text i lt in
    let b = digits_value-take-le 10 text (i + 1) (omega arith) in
    let c = value_bound text h in
    let d : 10 ^ length text ≤ 10 ^ 19 = pow-le-pow_right (omega arith) short in
    let e : 10 ^ 19 < 2 ^ 64 = lit< tt in
    omega (arith, a, b, c, d, e)

-- decimals count at most 999,999 millionths
pub decimals_bound : (text : List ℕ) → list_all is_ascii_digit text ≡ true → length text ≤ 6 → digits_value 10 text * 10 ^ (6 - length text) < 1_000_000
decimals_bound text h few =
    let some : 0 < 10 ^ (6 - length text) = one-le-pow (6 - length text) 10 (omega arith) in
    let below = mul-lt-mul_of_pos_right {k = 10 ^ (6 - length text)} (value_bound text h) some in
    let whole : length text + (6 - length text) ≡ 6 = omega arith in
    let all : 10 ^ length text * 10 ^ (6 - length text) ≡ 1_000_000 = sym (pow-add 10 (length text) (6 - length text)) ∙ ap (λ (k : ℕ). 10 ^ k) whole in
    subst (λ (x : ℕ). digits_value 10 text * 10 ^ (6 - length text) < x) all below

pub whole_bound : (text : List ℕ) → list_all is_ascii_digit text ≡ true → length text ≤ 18 → digits_value 10 text < 10 ^ 18
whole_bound text h short =
    let a = value_bound text h in
    let b : 10 ^ length text ≤ 10 ^ 18 = pow-le-pow_right (omega arith) short in
    omega (arith, a, b)
