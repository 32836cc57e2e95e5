-- Texts of which each byte stands for itself in a route.
use Rattle.std.proofs.Common.{◌≡◌, ◌∙◌, refl, ap, ℕ, zero, suc, ◌<◌, List, [], ◌∷◌, ◌++◌, Bool, true, false, not, ◌&&◌, ◌||◌, nat_lt, ltb, ◌==◌, Ok, None, IsAscii, IsUtf8, append_assoc, append-nil, ltb-true, arith}
use Rattle.std.proofs.lemmas.Bool.Decides.{nat_tests}
use Rattle.std.proofs.lemmas.Str.{IsUtf8-from_ascii}
use Rattle.matchit.specs.Level.{IsText}
use Rattle.matchit.specs.Route.{Scan, scan, outside, parse_route, shape_error}
use Rattle.service_paths.specs.Routers.{is_plain}

-- what the test of a byte and the bytes behind it says
record Parts (byte : ℕ) (text : List ℕ) : Type 0 where
  low : byte < 128
  no_open : (byte == 123) ≡ false
  no_close : (byte == 125) ≡ false
  rest : is_plain text ≡ true

parts : (byte : ℕ) (text : List ℕ) → is_plain (byte ∷ text) ≡ true → Parts byte text
parts byte text e = by (nat_lt byte 128) refl (byte == 123) refl (byte == 125) refl (is_plain text) refl e
  where
    by : (a : Bool) → nat_lt byte 128 ≡ a → (b : Bool) → (byte == 123) ≡ b → (d : Bool) → (byte == 125) ≡ d → (h : Bool) → is_plain text ≡ h
        → ((a && not (b || d)) && h) ≡ true → Parts byte text
    by true low false no_open false no_close true rest f =
        record { low = ltb-true _ _ low; no_open = no_open; no_close = no_close; rest = rest }
    by false low b no_open d no_close h rest f = cc
    by true low true no_open d no_close h rest f = cc
    by true low false no_open true no_close h rest f = cc
    by true low false no_open false no_close false rest f = cc

pub plain-IsText : (text : List ℕ) → is_plain text ≡ true → IsText text
plain-IsText [] e = tt
plain-IsText (byte ∷ text) e =
    let p = parts byte text e in
    (let low = p.low in omega arith, plain-IsText text p.rest)

plain-IsAscii : (text : List ℕ) → is_plain text ≡ true → IsAscii text
plain-IsAscii [] e i = omega arith
plain-IsAscii (byte ∷ text) e zero = (parts byte text e).low
plain-IsAscii (byte ∷ text) e (suc i) = plain-IsAscii text (parts byte text e).rest i

pub plain-IsUtf8 : (text : List ℕ) → is_plain text ≡ true → IsUtf8 text
plain-IsUtf8 text e = IsUtf8-from_ascii text (plain-IsAscii text e)

-- a scan that has read this text
abbrev pub read_so_far : List ℕ → Scan
read_so_far text = record { pattern = text; text = text; names = []; name_start = 0; catch_all = false; mode = outside }

scanned : (before text : List ℕ) → is_plain text ≡ true → scan (read_so_far before) text ≡ Ok (read_so_far (before ++ text))
unfolding scan
scanned before [] e = rw (append-nil before) refl
scanned before (byte ∷ text) e =
    let p = parts byte text e in
    rw (p.no_open, p.no_close) (scanned (before ++ byte ∷ []) text p.rest ∙ ap (λ t. Ok (read_so_far t)) (append_assoc before (byte ∷ []) text))

no_shape_error : (text : List ℕ) → is_plain text ≡ true → shape_error text ≡ None
no_shape_error [] e = refl
no_shape_error (byte ∷ text) e =
    let p = parts byte text e in
    let low = p.low in
    let a : ltb 257 byte ≡ false = grind (arith, nat_tests) in
    let b : (byte == 256) ≡ false = grind (arith, nat_tests) in
    let d : (byte == 257) ≡ false = grind (arith, nat_tests) in
    rw (a, b, d) (no_shape_error text p.rest)

-- a route without parameters is its text
pub parsed : (text : List ℕ) → is_plain text ≡ true → parse_route text ≡ Ok (read_so_far text)
parsed text e = rw (scanned [] text e, no_shape_error text e) refl
