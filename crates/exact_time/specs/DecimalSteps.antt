-- How the reader takes a decimal apart: at its sign, and then at its first point. What it reads is said
-- in `Decimals`; `proofs/DecimalTexts` shows that the two agree.
use Rattle.std.specs.Prelude.{ℕ, ◌+◌, ◌==◌, ◌||◌, not, nat_lt, Bool, List, [], ◌∷◌, Option, Some, None, Result, Ok, Err, length, take, drop, position, if◌then◌else◌, ℤ, pos, neg_ℤ}
use Rattle.std.specs.Char.{is_ascii_digit}
use Rattle.std.specs.List.{list_all}
use Rattle.exact_time.specs.MomentText.{hyphen, point}
use Rattle.exact_time.specs.Decimals.{plus, millionths_of}
use Rattle.exact_time.specs.declared.moment.TimeFault.{TimeFault}
use Rattle.exact_time.specs.declared.moment.TimeFault.TheVariants.{Form, Range}

abbrev pub are_digits : List ℕ → Bool
are_digits text = list_all is_ascii_digit text

-- a whole part and decimals
abbrev pub parts_of : List ℕ → List ℕ → Result ℕ TimeFault
parts_of whole decimals =
    if length whole == 0 || nat_lt 6 (length decimals) || not (are_digits whole) || not (are_digits decimals) then Err Form
    else (if nat_lt 18 (length whole) then Err Range else Ok (millionths_of whole decimals))

-- a text without a sign, whose first point is at that place
abbrev pub cut_at : List ℕ → Option ℕ → Result ℕ TimeFault
cut_at text None = parts_of text []
cut_at text (Some i) = if (i + 1) == length text then Err Form else parts_of (take i text) (drop (i + 1) text)

abbrev pub unsigned_of : List ℕ → Result ℕ TimeFault
unsigned_of text = cut_at text (position (λ c. c == point) text)

abbrev pub signed : (ℕ → ℤ) → Result ℕ TimeFault → Result ℤ TimeFault
signed sign (Ok n) = Ok (sign n)
signed sign (Err fault) = Err fault

abbrev pub decimal_of : List ℕ → Result ℤ TimeFault
decimal_of [] = Err Form
decimal_of (c ∷ cs) =
    if c == hyphen then signed (λ n. neg_ℤ (pos n)) (unsigned_of cs)
    else (if c == plus then signed pos (unsigned_of cs) else signed pos (unsigned_of (c ∷ cs)))
