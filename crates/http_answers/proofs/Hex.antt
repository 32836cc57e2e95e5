-- Hexadecimal digits are ASCII.
use Rattle.std.proofs.Common.{◌≡◌, ℕ, zero, suc, ◌<◌, true, List, [], ◌∷◌, arith}
use Rattle.std.specs.List.{list_all}
use Rattle.std.specs.Str.{IsAscii, IsUtf8}
use Rattle.std.specs.Char.{is_ascii_hexdigit}
use Rattle.std.proofs.lemmas.Bool.{and_parts}
use Rattle.std.proofs.lemmas.Bool.Decides.{nat_tests}
use Rattle.std.proofs.lemmas.Str.{IsUtf8-from_ascii}

low_byte : (c : ℕ) → is_ascii_hexdigit c ≡ true → c < 128
low_byte c h = grind (arith, nat_tests)

low_bytes : (text : List ℕ) → list_all is_ascii_hexdigit text ≡ true → IsAscii text
low_bytes [] h i = omega arith
low_bytes (c ∷ text) h zero = low_byte c (and_parts (is_ascii_hexdigit c) (list_all is_ascii_hexdigit text) h).0
low_bytes (c ∷ text) h (suc i) = low_bytes text (and_parts (is_ascii_hexdigit c) (list_all is_ascii_hexdigit text) h).1 i

pub hex_is_utf8 : (text : List ℕ) → list_all is_ascii_hexdigit text ≡ true → IsUtf8 text
hex_is_utf8 text h = IsUtf8-from_ascii text (low_bytes text h)
