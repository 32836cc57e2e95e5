-- Right parameters name one number and one whole number.
use Rattle.std.proofs.Common.{◌≡◌, ℕ, zero, suc, ◌*◌, ◌-◌, ◌<◌, ◌≤◌, ◌^◌, ℤ, unsigned_abs, length, Option, Some, None, refl, sym, ap, ◌∙◌, arith}
use Rattle.std.specs.Str.Parse.{digits_value}
use Rattle.std.proofs.Math.Nat.{pow-le-pow_right}
use Rattle.exact_time.specs.Decimals.{Sign, Unsigned, Plus, Minus, with_sign, millionths_of, IsDecimal}
use Rattle.exact_time.specs.declared.decimal.Decimal.{Decimal}
use Rattle.exact_time.proofs.Digits.{value_bound}
use Rattle.query_parameters.specs.Places.{IsNumberLimit, IsCountLimit}
use Rattle.query_parameters.specs.Rows.{Text}
use Rattle.query_parameters.specs.Values.{IsCount, CanRead}
use Rattle.query_parameters.specs.declared.rows.ValueKind.TheVariants as kind
use Rattle.query_parameters.proofs.OnePlace.{one_number}

decimals_below : (n m : ℕ) → n ≤ 6 → m < 10 ^ n → m * 10 ^ (6 - n) < 1_000_000
decimals_below zero m few lt = omega (arith, lt)
decimals_below (suc zero) m few lt = omega (arith, lt)
decimals_below (suc (suc zero)) m few lt = omega (arith, lt)
decimals_below (suc (suc (suc zero))) m few lt = omega (arith, lt)
decimals_below (suc (suc (suc (suc zero)))) m few lt = omega (arith, lt)
decimals_below (suc (suc (suc (suc (suc zero))))) m few lt = omega (arith, lt)
decimals_below (suc (suc (suc (suc (suc (suc zero)))))) m few lt = omega (arith, lt)
decimals_below (suc (suc (suc (suc (suc (suc (suc n))))))) m few lt = absurd (omega (arith, few))

size_of : (sign : Sign) (n : ℕ) → unsigned_abs (with_sign sign n) ≡ n
size_of Unsigned n = refl
size_of Plus n = refl
size_of Minus zero = refl
size_of Minus (suc n) = refl

-- a decimal is within what a number can be
within : (text : Text) (n : ℤ) → IsDecimal text n → unsigned_abs n < 1_000_000_000_000_000_000_000_000
within text n h =
    let whole = value_bound h.whole h.form.whole_digits in
    let power : 10 ^ length h.whole ≤ 10 ^ 18 = pow-le-pow_right (omega arith) h.short in
    let rest = decimals_below (length h.decimals) (digits_value 10 h.decimals) h.form.few (value_bound h.decimals h.form.decimal_digits) in
    let size : unsigned_abs n ≡ millionths_of h.whole h.decimals = ap unsigned_abs h.value ∙ size_of h.sign (millionths_of h.whole h.decimals) in
    omega (arith, whole, power, rest, size)

pub number_given : (given : Option Text) → ((text : Text) → given ≡ Some text → CanRead kind.Decimal text) → (limit : Option Decimal) × IsNumberLimit given limit
number_given None h = (None, refl)
number_given (Some text) h = let is = h text refl in let n : Decimal = record { millionths = is.0; millionths_in = within text is.0 is.1 } in (Some n, (n, refl, is.1))

pub count_given : (given : Option Text) → ((text : Text) → given ≡ Some text → CanRead kind.Count text) → (limit : Option ℕ) × IsCountLimit given limit
count_given None h = (None, refl)
count_given (Some text) h = let is = h text refl in (Some is.0, (is.0, refl, is.1))

pub one_number_limit : (given : Option Text) (a b : Option Decimal) → IsNumberLimit given a → IsNumberLimit given b → a ≡ b
one_number_limit None a b h k = h ∙ sym k
one_number_limit (Some text) a b h k = h.1 ∙ ap Some (one_number text h.0 k.0 h.2 k.2) ∙ sym k.1

pub one_count : (text : Text) (a b : ℕ) → IsCount text a → IsCount text b → a ≡ b
one_count text a b h k = let e : Some a ≡ Some b = sym h.whole ∙ k.whole in cc

pub one_count_limit : (given : Option Text) (a b : Option ℕ) → IsCountLimit given a → IsCountLimit given b → a ≡ b
one_count_limit None a b h k = h ∙ sym k
one_count_limit (Some text) a b h k = h.1 ∙ ap Some (one_count text h.0 k.0 h.2 k.2) ∙ sym k.1
