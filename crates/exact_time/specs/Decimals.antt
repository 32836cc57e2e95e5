-- Decimal numbers as texts, counted in millionths: an optional sign, 1 or more digits, and then, if
-- wanted, a point and 1 to 6 digits.
use Rattle.std.specs.Prelude.{◌≡◌, ℕ, ◌+◌, ◌-◌, ◌*◌, ◌/◌, ◌%◌, ◌^◌, ◌<◌, ◌≤◌, ◌==◌, ◌&&◌, nat_le, IsTrue, ℤ, pos, negsuc, neg_ℤ, unsigned_abs, List, [], ◌∷◌, ◌++◌, length, take, drop, decimal, Option, Some, None, if◌then◌else◌}
use Rattle.std.specs.Char.{is_ascii_digit}
use Rattle.std.specs.List.{list_all}
use Rattle.std.specs.Str.Parse.{digits_value}
use Rattle.exact_time.specs.MomentText.{zero_digit, hyphen, point, six_digits}
use Rattle.exact_time.specs.declared.moment.TimeFault.{TimeFault}
use Rattle.exact_time.specs.declared.moment.TimeFault.TheVariants.{Form, Range}

abbrev pub plus : ℕ
plus = 43

pub data Sign : Type 0 where
  Unsigned : Sign
  Plus : Sign
  Minus : Sign

abbrev pub sign_text : Sign → List ℕ
sign_text Unsigned = []
sign_text Plus = plus ∷ []
sign_text Minus = hyphen ∷ []

abbrev pub with_sign : Sign → ℕ → ℤ
with_sign Unsigned n = pos n
with_sign Plus n = pos n
with_sign Minus n = neg_ℤ (pos n)

-- each byte is a digit
abbrev pub AreDigits : List ℕ → Type 0
AreDigits text = IsTrue (list_all is_ascii_digit text)

-- the whole number that 1 to 19 digits stand for
abbrev pub whole_of : List ℕ → Option ℕ
whole_of text =
    if nat_le 1 (length text) && nat_le (length text) 19 && list_all is_ascii_digit text then Some (digits_value 10 text) else None

-- what stands behind the whole part: nothing, or a point and the decimals
abbrev pub behind_whole : List ℕ → List ℕ
behind_whole [] = []
behind_whole (c ∷ cs) = point ∷ c ∷ cs

-- the text is that of a sign, a whole part and decimals, however long its whole part is
pub record IsDecimalForm (text : List ℕ) (sign : Sign) (whole decimals : List ℕ) : Type 0 where
  pub text_is : text ≡ sign_text sign ++ whole ++ behind_whole decimals
  pub some : 1 ≤ length whole
  pub whole_digits : AreDigits whole
  pub decimal_digits : AreDigits decimals
  pub few : length decimals ≤ 6

-- how many millionths the digits of a whole part and of decimals stand for
abbrev pub millionths_of : List ℕ → List ℕ → ℕ
millionths_of whole decimals =
    digits_value 10 whole * 1_000_000 + digits_value 10 decimals * 10 ^ (6 - length decimals)

-- the text is a decimal of at most 18 digits before the point, and has this value in millionths
pub record IsDecimal (text : List ℕ) (millionths : ℤ) : Type 0 where
  pub sign : Sign
  pub whole : List ℕ
  pub decimals : List ℕ
  pub form : IsDecimalForm text sign whole decimals
  pub short : length whole ≤ 18
  pub value : millionths ≡ with_sign sign (millionths_of whole decimals)

-- why a text is no decimal: it has another form, or more than 18 digits before the point
abbrev pub RefusesDecimal : List ℕ → TimeFault → Type 0
RefusesDecimal text Form = (sign : Sign) (whole decimals : List ℕ) → ¬ (IsDecimalForm text sign whole decimals)
RefusesDecimal text Range =
    (sign : Sign) × (whole : List ℕ) × (decimals : List ℕ)
    × IsDecimalForm text sign whole decimals × (18 < length whole)

-- the digits without the zeros at their end
abbrev pub without_zeros : List ℕ → List ℕ
without_zeros [] = []
without_zeros (c ∷ cs) = if list_all (λ d. d == zero_digit) (c ∷ cs) then [] else c ∷ without_zeros cs

-- the first digit, and the others without the zeros at their end
abbrev pub short_digits : List ℕ → List ℕ
short_digits digits = take 1 digits ++ without_zeros (drop 1 digits)

-- a hyphen before what is below zero
abbrev pub minus_text : ℤ → List ℕ
minus_text (pos n) = []
minus_text (negsuc n) = hyphen ∷ []

-- how a number of millionths is written: a hyphen if it is below zero, its whole part without leading
-- zeros, a point, and its decimals without zeros at their end, but at least one
abbrev pub decimal_text : ℤ → List ℕ
decimal_text millionths =
    minus_text millionths ++ decimal (unsigned_abs millionths / 1_000_000)
    ++ point ∷ short_digits (six_digits (unsigned_abs millionths % 1_000_000))
