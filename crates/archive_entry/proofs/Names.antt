-- The bytes of a user's name.
use Rattle.std.proofs.Common.{◌≡◌, ◌&&◌, ℕ, zero, suc, ◌<◌, ◌≤◌, true, List, [], ◌∷◌, length, arith}
use Rattle.std.specs.Prelude.{nat_le}
use Rattle.std.specs.List.{list_all}
use Rattle.std.specs.Str.{IsAscii, IsUtf8}
use Rattle.std.proofs.lemmas.Bool.{and_parts}
use Rattle.std.proofs.lemmas.Bool.Decides.{nat_tests}
use Rattle.std.proofs.lemmas.Str.{IsUtf8-from_ascii}
use Rattle.epochs.specs.Fields.{is_name_byte, is_user_name}

low_byte : (c : ℕ) → is_name_byte c ≡ true → c < 128
low_byte c h = grind (arith, nat_tests)

low_bytes : (text : List ℕ) → list_all is_name_byte text ≡ true → IsAscii text
low_bytes [] h i = omega arith
low_bytes (c ∷ text) h zero = low_byte c (and_parts (is_name_byte c) (list_all is_name_byte text) h).0
low_bytes (c ∷ text) h (suc i) = low_bytes text (and_parts (is_name_byte c) (list_all is_name_byte text) h).1 i

name_parts : (text : List ℕ) → is_user_name text ≡ true → (nat_le 1 (length text) ≡ true) × (nat_le (length text) 32 ≡ true) × (list_all is_name_byte text ≡ true)
name_parts text h =
    let front = and_parts (nat_le 1 (length text) && nat_le (length text) 32) (list_all is_name_byte text) h in
    let sizes = and_parts (nat_le 1 (length text)) (nat_le (length text) 32) front.0 in
    (sizes.0, sizes.1, front.1)

-- they are ASCII, and so UTF-8
pub name_is_utf8 : (text : List ℕ) → is_user_name text ≡ true → IsUtf8 text
name_is_utf8 text h = IsUtf8-from_ascii text (low_bytes text (name_parts text h).2)

-- there are 1 to 32
pub name_length : (text : List ℕ) → is_user_name text ≡ true → (1 ≤ length text) × (length text ≤ 32)
name_length text h =
    let parts = name_parts text h in
    let low = parts.0 in
    let high = parts.1 in
    (grind (arith, nat_tests), grind (arith, nat_tests))
