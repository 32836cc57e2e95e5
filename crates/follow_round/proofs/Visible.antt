-- What requests are made of is visible ASCII.
use Rattle.std.proofs.Common.{◌≡◌, ℕ, ◌≤◌, ◌<◌, ◌^◌, map, ◌==◌, ◌&&◌, Bool, true, false, List, [], ◌∷◌, ◌++◌, length, take, drop, Option, None, Some, refl, ◌∙◌, arith, codes, nat_lt}
use Rattle.std.specs.Prelude.{if◌then◌else◌, decimal, nat_le, nat_eq, slice_index, IfSome}
use Rattle.std.specs.Char.{is_ascii_hexdigit}
use Rattle.std.specs.List.{list_all, flat_map, starts_with}
use Rattle.std.specs.Str.Parse.{AllDigits}
use Rattle.std.proofs.lemmas.Bool.{and_from, and_parts}
use Rattle.std.proofs.lemmas.Bool.Decides.{nat_tests}
use Rattle.std.proofs.lemmas.Fmt.{decimal_is_IsNumeral}
use Rattle.std.proofs.lemmas.List.Folds.{list_all-append}
use Rattle.std.proofs.lemmas.Str.Parse.{digit_from_value}
use Rattle.httparse.specs.Grammar.{ResponseHead, is_uri_byte, is_value_byte}
use Rattle.http_digest.specs.Answers.{is_visible, are_visible, is_special, escaped, quoted, authorization_text}
use Rattle.http_digest.specs.Credentials.{quotation_mark, backslash}
use Rattle.http_digest.specs.Responses.{response_of, digest_of}
use Rattle.http_digest.proofs.Hexadecimal.{digest_digits}
use Rattle.http_wire.specs.Heads.{is_target, is_value}
use Rattle.httparse.specs.Spans.{name_and_value}
use Rattle.http_answers.specs.ReplyHeads.{value_of, begins_nonce, has_nonce, nonce_in, then_read, said}
use Rattle.epochs.specs.Fields.{is_name_byte, is_user_name}
use Rattle.follow_round.specs.Requests.{entries_target}

all_visible : (p : ℕ → Bool) → ((c : ℕ) → p c ≡ true → is_visible c ≡ true) → (text : List ℕ) → list_all p text ≡ true → are_visible text ≡ true
all_visible p one [] h = refl
all_visible p one (c ∷ text) h =
    let both = and_parts (p c) (list_all p text) h in
    and_from _ _ (one c both.0) (all_visible p one text both.1)

hex_seen : (c : ℕ) → is_ascii_hexdigit c ≡ true → is_visible c ≡ true
hex_seen c h = grind (arith, nat_tests)

pub hex_visible : (text : List ℕ) → list_all is_ascii_hexdigit text ≡ true → are_visible text ≡ true
hex_visible = all_visible is_ascii_hexdigit hex_seen

name_seen : (c : ℕ) → is_name_byte c ≡ true → is_visible c ≡ true
name_seen c h = grind (arith, nat_tests)

pub user_visible : (user : List ℕ) → is_user_name user ≡ true → are_visible user ≡ true
user_visible user h = all_visible is_name_byte name_seen user (and_parts (nat_le 1 (length user) && nat_le (length user) 32) (list_all is_name_byte user) h).1

-- ---- the target

digit_seen : (c : ℕ) → 48 ≤ c → c ≤ 57 → is_visible c ≡ true
digit_seen c low high = grind (arith, nat_tests)

digits_seen : (text : List ℕ) → AllDigits 10 text → are_visible text ≡ true
digits_seen [] h = refl
digits_seen (c ∷ text) h =
    let digit = digit_from_value c h.0 in
    and_from _ _ (digit_seen c (omega (arith, digit)) (omega (arith, digit))) (digits_seen text h.1)

pub target_visible : (n : ℕ) → n < 2 ^ 64 → are_visible (entries_target n) ≡ true
target_visible n small = list_all-append is_visible (codes "/archive/1/entries?from=") (decimal n) ∙ and_from _ _ refl (digits_seen (decimal n) (decimal_is_IsNumeral n small).0.1)

uri_seen : (c : ℕ) → is_visible c ≡ true → is_uri_byte c ≡ true
uri_seen c h = grind (arith, nat_tests)

uris : (text : List ℕ) → are_visible text ≡ true → list_all is_uri_byte text ≡ true
uris [] h = refl
uris (c ∷ text) h =
    let both = and_parts (is_visible c) (are_visible text) h in
    and_from _ _ (uri_seen c both.0) (uris text both.1)

some : (n : ℕ) → 0 < n → nat_lt 0 n ≡ true
some n lt = grind (arith, nat_tests)

pub is_a_target : (n : ℕ) → n < 2 ^ 64 → is_target (entries_target n) ≡ true
is_a_target n small = and_from _ _ (some (length (entries_target n)) (omega arith)) (uris (entries_target n) (target_visible n small))

-- ---- the value of the credentials

value_seen : (c : ℕ) → is_visible c ≡ true → is_value_byte c ≡ true
value_seen c h = grind (arith, nat_tests)

joined : (xs ys : List ℕ) → is_value xs ≡ true → is_value ys ≡ true → is_value (xs ++ ys) ≡ true
joined xs ys a b = list_all-append is_value_byte xs ys ∙ and_from _ _ a b

escaped_value : (text : List ℕ) → are_visible text ≡ true → is_value (flat_map escaped text) ≡ true
escaped_value [] h = refl
escaped_value (b ∷ text) h =
    let two = and_parts (is_visible b) (are_visible text) h in
    joined (escaped b) (flat_map escaped text) (by (is_special b) (value_seen b two.0)) (escaped_value text two.1)
  where
    by : (t : Bool) → is_value_byte b ≡ true → is_value (if t then backslash ∷ b ∷ [] else b ∷ []) ≡ true
    by true v = and_from _ _ refl (and_from _ _ v refl)
    by false v = and_from _ _ v refl

quoted_value : (text : List ℕ) → are_visible text ≡ true → is_value (quoted text) ≡ true
quoted_value text h = and_from _ _ refl (joined (flat_map escaped text) (quotation_mark ∷ []) (escaped_value text h) refl)

pub answer_is_value : (user ha1 method target nonce : List ℕ) → are_visible user ≡ true → are_visible target ≡ true → are_visible nonce ≡ true
    → is_value (authorization_text user ha1 method target nonce) ≡ true
answer_is_value user ha1 method target nonce u t n =
    let response = response_of ha1 method target nonce None in
    let seen = hex_visible response (digest_digits (ha1 ∷ nonce ∷ digest_of (method ∷ target ∷ []) ∷ [])) in
    let with : (name value rest : List ℕ) → is_value name ≡ true → is_value value ≡ true → is_value rest ≡ true → is_value (name ++ (value ++ rest)) ≡ true =
    λ name value rest x y z. joined name (value ++ rest) x (joined value rest y z) in
    let last = codes ", response=" ++ quoted response in
    let four = codes ", uri=" ++ (quoted target ++ last) in
    let three = codes ", nonce=" ++ (quoted nonce ++ four) in
    let two = codes ", realm=" ++ (quoted (codes "FDSN") ++ three) in
    let is_last = joined (codes ", response=") (quoted response) refl (quoted_value response seen) in
    let is_four = with (codes ", uri=") (quoted target) last refl (quoted_value target t) is_last in
    let is_three = with (codes ", nonce=") (quoted nonce) four refl (quoted_value nonce n) is_four in
    let is_two = with (codes ", realm=") (quoted (codes "FDSN")) three refl refl is_three in
    with (codes "Digest username=") (quoted user) two refl (quoted_value user u) is_two

-- ---- a nonce that a reply tells

nonce_digits : (text : List ℕ) → has_nonce text ≡ true → list_all is_ascii_hexdigit (take 48 text) ≡ true
nonce_digits text h =
    let digits : Bool = list_all is_ascii_hexdigit (take 48 text) in
    let quote : Bool = slice_index (drop 48 text) 0 == 34 in
    (and_parts digits quote (and_parts (nat_le 49 (length text)) (digits && quote) h).1).0

nonce_found : (text : List ℕ) → IfSome (nonce_in text) (λ nonce. are_visible nonce ≡ true)
nonce_found [] = tt
nonce_found (b ∷ bytes) = by (begins_nonce (b ∷ bytes)) refl (nonce_found bytes)
  where
    by : (t : Bool) → begins_nonce (b ∷ bytes) ≡ t → IfSome (nonce_in bytes) (λ nonce. are_visible nonce ≡ true)
        → IfSome (if t then Some (take 48 (drop 7 (b ∷ bytes))) else nonce_in bytes) (λ nonce. are_visible nonce ≡ true)
    by true is behind =
        hex_visible (take 48 (drop 7 (b ∷ bytes)))
        (nonce_digits (drop 7 (b ∷ bytes)) (and_parts (starts_with nat_eq (b ∷ bytes) (codes "nonce=\"")) (has_nonce (drop 7 (b ∷ bytes))) is).1)
    by false is behind = behind

then_found : (value : Option (List ℕ)) → IfSome (then_read nonce_in value) (λ nonce. are_visible nonce ≡ true)
then_found None = tt
then_found (Some text) = nonce_found text

pub nonce_visible : (tree : ResponseHead) → IfSome (said tree).nonce (λ nonce. are_visible nonce ≡ true)
nonce_visible tree = then_found (value_of (codes "www-authenticate") (map name_and_value tree.fields))
