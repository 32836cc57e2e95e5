-- The text of a decimal: its decimals without zeros at their end, and that it reads back.
use Rattle.std.proofs.Common.{◌≡◌, ℕ, zero, suc, ◌+◌, ◌-◌, ◌*◌, ◌/◌, ◌%◌, ◌^◌, ◌<◌, ◌≤◌, ◌==◌, Bool, true, false, if◌then◌else◌, List, [], ◌∷◌, ◌++◌, length, take, drop, get_or, ℤ, pos, neg_ℤ, refl, sym, ap, subst, ◌∙◌, arith}
use Rattle.std.specs.Prelude.{unsigned_abs, decimal, negsuc}
use Rattle.std.specs.List.{list_all}
use Rattle.std.specs.Char.{is_ascii_digit, digit_value}
use Rattle.std.specs.Str.{IsAscii}
use Rattle.std.specs.Str.Parse.{AllDigits, digits_value, digits_value_after}
use Rattle.std.proofs.lemmas.Bool.{and_from, and_parts}
use Rattle.std.proofs.lemmas.Bool.Decides.{nat_tests}
use Rattle.std.proofs.lemmas.Fmt.{decimal_is_IsNumeral, length-decimal-le, IsAscii-from_digits}
use Rattle.std.proofs.lemmas.List.Folds.{list_all_at}
use Rattle.std.proofs.lemmas.Str.{digit_value_digit}
use Rattle.std.proofs.lemmas.Str.Parse.{digit_from_value}
use Rattle.std.proofs.Math.Nat.{pow-succ', mul_assoc}
use Rattle.exact_time.specs.MomentText.{zero_digit, point, six_digits}
use Rattle.exact_time.specs.Decimals.{Unsigned, Minus, without_zeros, behind_whole, short_digits, decimal_text, millionths_of, IsDecimalForm, IsDecimal}
use Rattle.exact_time.proofs.Digits.{all_digits}
use Rattle.exact_time.proofs.DecimalTexts.{with_form}

abbrev pub is_zero : ℕ → Bool
is_zero c = c == zero_digit

before : (c : ℕ) (cs : List ℕ) (k : ℕ) → 0 < k → is_zero (get_or (c ∷ cs) (suc k - 1) 0) ≡ false → is_zero (get_or cs (k - 1) 0) ≡ false
before c cs zero h e = absurd (omega arith)
before c cs (suc k) h e =
    let left : suc (suc k) - 1 ≡ suc k = omega arith in
    let right : suc k - 1 ≡ k = omega arith in
    subst (λ (i : ℕ). is_zero (get_or cs i 0) ≡ false) (sym right) (subst (λ (i : ℕ). is_zero (get_or (c ∷ cs) i 0) ≡ false) left e)

-- where zeros alone stand from a place on, and no zero before it, the digits end there
pub cut_zeros : (xs : List ℕ) (k : ℕ) → k ≤ length xs → list_all is_zero (drop k xs) ≡ true → (0 < k → is_zero (get_or xs (k - 1) 0) ≡ false) → take k xs ≡ without_zeros xs
cut_zeros [] zero within zeros last = refl
cut_zeros [] (suc k) within zeros last = absurd (omega arith)
cut_zeros (c ∷ cs) zero within zeros last = sym (ap (λ (b : Bool). if b then [] else c ∷ without_zeros cs) zeros)
cut_zeros (c ∷ cs) (suc k) within zeros last =
    let here : is_zero (get_or (c ∷ cs) k 0) ≡ false = (let same : suc k - 1 ≡ k = omega arith in subst (λ (i : ℕ). is_zero (get_or (c ∷ cs) i 0) ≡ false) same (last (omega arith))) in
    let some : list_all is_zero (c ∷ cs) ≡ false = list_all_at is_zero (c ∷ cs) k 0 (omega arith) here in
    let more = ap (λ (b : Bool). if b then [] else c ∷ without_zeros cs) some in
    ap (λ (x : List ℕ). c ∷ x) (cut_zeros cs k (omega arith) zeros (λ h. before c cs k h (last (omega arith)))) ∙ sym more

-- the first of some digits, and the others up to a place
pub cut_short : (xs : List ℕ) (end : ℕ) → 1 ≤ end → end ≤ length xs → list_all is_zero (drop end xs) ≡ true → (1 < end → is_zero (get_or xs (end - 1) 0) ≡ false) → take end xs ≡ take 1 xs ++ without_zeros (drop 1 xs)
cut_short xs zero some within zeros last = absurd (omega arith)
cut_short [] (suc k) some within zeros last = absurd (omega arith)
cut_short (c ∷ cs) (suc k) some within zeros last =
    ap (λ (x : List ℕ). c ∷ x) (cut_zeros cs k (omega arith) zeros (λ h. before c cs k h (last (omega arith))))

a_digit : (x : ℕ) → x < 10 → is_ascii_digit (48 + x) ≡ true
a_digit x h = grind (arith, nat_tests)

value_of_digit : (x : ℕ) → x < 10 → digit_value (48 + x) ≡ x
value_of_digit x h = let e = digit_value_digit (48 + x) (omega arith, omega arith) in omega arith

six_are_digits : (n : ℕ) → n < 1_000_000 → list_all is_ascii_digit (six_digits n) ≡ true
six_are_digits n h =
    and_from _ _ (a_digit (n / 10_000 / 10) (omega arith)) (and_from _ _ (a_digit (n / 10_000 % 10) (omega arith))
    (and_from _ _ (a_digit (n / 100 % 100 / 10) (omega arith)) (and_from _ _ (a_digit (n / 100 % 100 % 10) (omega arith))
    (and_from _ _ (a_digit (n % 100 / 10) (omega arith)) (and_from _ _ (a_digit (n % 100 % 10) (omega arith)) refl)))))

six_value : (n : ℕ) → n < 1_000_000 → digits_value 10 (six_digits n) ≡ n
six_value n h =
    let a = value_of_digit (n / 10_000 / 10) (omega arith) in
    let b = value_of_digit (n / 10_000 % 10) (omega arith) in
    let c = value_of_digit (n / 100 % 100 / 10) (omega arith) in
    let d = value_of_digit (n / 100 % 100 % 10) (omega arith) in
    let e = value_of_digit (n % 100 / 10) (omega arith) in
    let f = value_of_digit (n % 100 % 10) (omega arith) in
    rw (a, b, c, d, e, f) (omega arith)

few_without_zeros : (xs : List ℕ) → length (without_zeros xs) ≤ length xs
few_without_zeros [] = omega arith
few_without_zeros (c ∷ cs) =
    elim (list_all is_zero (c ∷ cs)) as (λ b. length (if b then [] else c ∷ without_zeros cs) ≤ suc (length cs)) [
      | true ↦ omega arith
      | false ↦ omega (arith, few_without_zeros cs)
    ]

digits_without_zeros : (xs : List ℕ) → list_all is_ascii_digit xs ≡ true → list_all is_ascii_digit (without_zeros xs) ≡ true
digits_without_zeros [] h = refl
digits_without_zeros (c ∷ cs) h =
    let p = and_parts (is_ascii_digit c) (list_all is_ascii_digit cs) h in
    elim (list_all is_zero (c ∷ cs)) as (λ b. list_all is_ascii_digit (if b then [] else c ∷ without_zeros cs) ≡ true) [
      | true ↦ refl
      | false ↦ and_from _ _ p.0 (digits_without_zeros cs p.1)
    ]

zero_value : (c : ℕ) → is_zero c ≡ true → digit_value c ≡ 0
zero_value c h = let e : c ≡ 48 = grind (arith, nat_tests) in rw e refl

-- zeros at the end multiply by ten each
zeros_value : (n : ℕ) (xs : List ℕ) → list_all is_zero xs ≡ true → n * 10 ^ length xs ≡ digits_value_after 10 n xs
zeros_value n [] h = omega arith
zeros_value n (c ∷ cs) h =
    let p = and_parts (is_zero c) (list_all is_zero cs) h in
    let here : n * 10 + digit_value c ≡ n * 10 = omega (arith, zero_value c p.0) in
    let more = zeros_value (n * 10) cs p.1 in
    ap (λ (x : ℕ). n * x) (pow-succ' 10 (length cs)) ∙ sym (mul_assoc n 10 (10 ^ length cs)) ∙ more ∙ ap (λ (m : ℕ). digits_value_after 10 m cs) (sym here)

value_without_zeros : (n : ℕ) (xs : List ℕ) → digits_value_after 10 n (without_zeros xs) * 10 ^ (length xs - length (without_zeros xs)) ≡ digits_value_after 10 n xs
value_without_zeros n [] = omega arith
value_without_zeros n (c ∷ cs) =
    elim (list_all is_zero (c ∷ cs)) as (λ b. list_all is_zero (c ∷ cs) ≡ b → digits_value_after 10 n (if b then [] else c ∷ without_zeros cs) * 10 ^ (suc (length cs) - length (if b then [] else c ∷ without_zeros cs)) ≡ digits_value_after 10 n (c ∷ cs)) [
      | true ↦ λ h.
          let whole : suc (length cs) - 0 ≡ suc (length cs) = omega arith in
          ap (λ (k : ℕ). n * 10 ^ k) whole ∙ zeros_value n (c ∷ cs) h
      | false ↦ λ h.
          let same : suc (length cs) - suc (length (without_zeros cs)) ≡ length cs - length (without_zeros cs) = omega arith in
          ap (λ (k : ℕ). digits_value_after 10 (n * 10 + digit_value c) (without_zeros cs) * 10 ^ k) same ∙ value_without_zeros (n * 10 + digit_value c) cs
    ] refl

short_are_digits : (xs : List ℕ) → list_all is_ascii_digit xs ≡ true → list_all is_ascii_digit (short_digits xs) ≡ true
short_are_digits [] h = refl
short_are_digits (c ∷ cs) h =
    let p = and_parts (is_ascii_digit c) (list_all is_ascii_digit cs) h in
    and_from _ _ p.0 (digits_without_zeros cs p.1)

short_few : (xs : List ℕ) → length (short_digits xs) ≤ length xs
short_few [] = omega arith
short_few (c ∷ cs) = omega (arith, few_without_zeros cs)

short_value : (xs : List ℕ) → digits_value 10 (short_digits xs) * 10 ^ (length xs - length (short_digits xs)) ≡ digits_value 10 xs
short_value [] = omega arith
short_value (c ∷ cs) =
    let same : suc (length cs) - suc (length (without_zeros cs)) ≡ length cs - length (without_zeros cs) = omega arith in
    ap (λ (k : ℕ). digits_value_after 10 (0 * 10 + digit_value c) (without_zeros cs) * 10 ^ k) same ∙ value_without_zeros (0 * 10 + digit_value c) cs

short_behind : (xs : List ℕ) → 1 ≤ length xs → behind_whole (short_digits xs) ≡ point ∷ short_digits xs
short_behind [] h = absurd (omega arith)
short_behind (c ∷ cs) h = refl

pub ascii_short : (n : ℕ) → n < 1_000_000 → IsAscii (short_digits (six_digits n))
ascii_short n h =
    let digits = short_are_digits (six_digits n) (six_are_digits n h) in
    IsAscii-from_digits (short_digits (six_digits n)) (all_digits (short_digits (six_digits n)) digits)

-- what is written reads back
pub from_digits : (text : List ℕ) → AllDigits 10 text → list_all is_ascii_digit text ≡ true
from_digits [] h = refl
from_digits (c ∷ cs) h =
    let r = digit_from_value c h.0 in
    let here : is_ascii_digit c ≡ true = grind (arith, nat_tests, r) in
    and_from _ _ here (from_digits cs h.1)

read_unsigned : (n : ℕ) → n < 1_000_000_000_000_000_000_000_000 → IsDecimalForm (decimal (n / 1_000_000) ++ point ∷ short_digits (six_digits (n % 1_000_000))) Unsigned (decimal (n / 1_000_000)) (short_digits (six_digits (n % 1_000_000)))
read_unsigned n h =
    let w = n / 1_000_000 in
    let digits = six_digits (n % 1_000_000) in
    let numeral = decimal_is_IsNumeral w (omega arith) in
    record {
      text_is = ap (λ (x : List ℕ). decimal w ++ x) (sym (short_behind digits (omega arith)));
      some = numeral.0.0;
      whole_digits = from_digits (decimal w) numeral.0.1;
      decimal_digits = short_are_digits digits (six_are_digits (n % 1_000_000) (omega arith));
      few = short_few digits;
    }

whole_and_rest : (a b n : ℕ) → a ≡ n / 1_000_000 → b ≡ n % 1_000_000 → a * 1_000_000 + b ≡ n
whole_and_rest a b n whole rest = omega arith

same_value : (n : ℕ) → n < 1_000_000_000_000_000_000_000_000 → millionths_of (decimal (n / 1_000_000)) (short_digits (six_digits (n % 1_000_000))) ≡ n
same_value n h =
    whole_and_rest _ _ n (decimal_is_IsNumeral (n / 1_000_000) (omega arith)).1
    (short_value (six_digits (n % 1_000_000)) ∙ six_value (n % 1_000_000) (omega arith))

pub reads_back : (z : ℤ) → unsigned_abs z < 1_000_000_000_000_000_000_000_000 → IsDecimal (decimal_text z) z
reads_back (pos n) h = record {
  sign = Unsigned;
  whole = decimal (n / 1_000_000);
  decimals = short_digits (six_digits (n % 1_000_000));
  form = read_unsigned n h;
  short = length-decimal-le 18 (n / 1_000_000) (omega arith) (omega arith) (omega arith);
  value = ap pos (sym (same_value n h));
}
reads_back (negsuc n) h = record {
  sign = Minus;
  whole = decimal (suc n / 1_000_000);
  decimals = short_digits (six_digits (suc n % 1_000_000));
  form = with_form Minus (decimal (suc n / 1_000_000) ++ point ∷ short_digits (six_digits (suc n % 1_000_000))) (decimal (suc n / 1_000_000)) (short_digits (six_digits (suc n % 1_000_000))) (read_unsigned (suc n) h);
  short = length-decimal-le 18 (suc n / 1_000_000) (omega arith) (omega arith) (omega arith);
  value = ap (λ (m : ℕ). neg_ℤ (pos m)) (sym (same_value (suc n) h));
}
