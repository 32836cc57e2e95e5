-- What a client answers spells its parts.
use Rattle.std.proofs.Common.{◌≡◌, ℕ, zero, suc, ◌<◌, ◌==◌, ◌||◌, Bool, true, false, List, [], ◌∷◌, ◌++◌, length, map, Option, None, Some, refl, sym, ◌∙◌, ap, arith, append-nil, append_assoc, nat_lt}
use Rattle.std.specs.Prelude.{codes, if◌then◌else◌, option_and_then}
use Rattle.std.specs.Char.{is_ascii_hexdigit, to_ascii_lowercase}
use Rattle.std.specs.List.{list_all, flat_map}
use Rattle.std.specs.Str.{IsAscii, IsUtf8, is_utf8}
use Rattle.std.proofs.lemmas.Bool.{and_from, and_parts, cond-true}
use Rattle.std.proofs.lemmas.Bool.Decides.{nat_tests}
use Rattle.std.proofs.lemmas.List.Folds.{list_all-append}
use Rattle.std.proofs.lemmas.Str.{IsUtf8-from_ascii, is_utf8-from_IsUtf8}
use Rattle.http_digest.specs.Answers.{is_visible, are_visible, is_special, escaped, quoted, value_with, authorization_text, AnswerReadsBack}
use Rattle.http_digest.specs.Credentials.{space, quotation_mark, backslash, is_token_byte, QuotedByte, Plain, Escaped, print_byte, said_byte, is_quotable, Spelling, Quoted, print_spelling, Parameter, Further, CredentialTree, print_credentials, IsCredentials, said_items}
use Rattle.http_digest.specs.Parts.{authorization_said, are_fit, are_texts, parts_said, text_in, response_in, is_digest}
use Rattle.http_digest.specs.Responses.{response_of, digest_of}
use Rattle.http_digest.specs.declared.authorization.Authorization.{Authorization}
use Rattle.http_digest.specs.declared.item.Item.{Item}
use Rattle.http_digest.proofs.Hexadecimal.{digest_digits, digest_size, digest_low}
use Rattle.http_digest.proofs.Texts.{text_found}

-- ---- quoted texts

abbrev as_quoted : ℕ → QuotedByte
as_quoted b = if is_special b then Escaped b else Plain b

print_quoted : (b : ℕ) → print_byte (as_quoted b) ≡ escaped b
print_quoted b = by (is_special b)
  where
    by : (t : Bool) → print_byte (if t then Escaped b else Plain b) ≡ (if t then backslash ∷ b ∷ [] else b ∷ [])
    by true = refl
    by false = refl

said_quoted : (b : ℕ) → said_byte (as_quoted b) ≡ b
said_quoted b = by (is_special b)
  where
    by : (t : Bool) → said_byte (if t then Escaped b else Plain b) ≡ b
    by true = refl
    by false = refl

is_quoted : (b : ℕ) → is_quotable (as_quoted b) ≡ true
is_quoted b = by (b == quotation_mark) (b == backslash) refl refl
  where
    by : (x y : Bool) → (b == quotation_mark) ≡ x → (b == backslash) ≡ y → is_quotable (if x || y then Escaped b else Plain b) ≡ true
    by true y is-x is-y = refl
    by false true is-x is-y = refl
    by false false is-x is-y = rw (is-x, is-y) refl

print_all : (text : List ℕ) → flat_map print_byte (map as_quoted text) ≡ flat_map escaped text
print_all [] = refl
print_all (b ∷ text) = λ i. print_quoted b i ++ print_all text i

said_all : (text : List ℕ) → map said_byte (map as_quoted text) ≡ text
said_all [] = refl
said_all (b ∷ text) = λ i. said_quoted b i ∷ said_all text i

quotable_all : (text : List ℕ) → list_all is_quotable (map as_quoted text) ≡ true
quotable_all [] = refl
quotable_all (b ∷ text) = and_from _ _ (is_quoted b) (quotable_all text)

abbrev spelling : List ℕ → Spelling
spelling text = Quoted (map as_quoted text)

spelled : (text : List ℕ) → quoted text ≡ print_spelling (spelling text)
spelled text = ap (λ (s : List ℕ). quotation_mark ∷ (s ++ quotation_mark ∷ [])) (sym (print_all text))

-- ---- visible characters are text

low_byte : (b : ℕ) → is_visible b ≡ true → b < 128
low_byte b h = grind (arith, nat_tests)

low_bytes : (text : List ℕ) → list_all (λ b. nat_lt b 128) text ≡ true → IsAscii text
low_bytes [] h i = omega arith
low_bytes (b ∷ text) h zero = let low = (and_parts (nat_lt b 128) (list_all (λ b. nat_lt b 128) text) h).0 in grind (arith, nat_tests, low)
low_bytes (b ∷ text) h (suc i) = low_bytes text (and_parts (nat_lt b 128) (list_all (λ b. nat_lt b 128) text) h).1 i

visible_low : (text : List ℕ) → are_visible text ≡ true → list_all (λ b. nat_lt b 128) text ≡ true
visible_low [] h = refl
visible_low (b ∷ text) h =
    let two = and_parts (is_visible b) (are_visible text) h in
    and_from _ _ (test b (low_byte b two.0)) (visible_low text two.1)
  where
    test : (n : ℕ) → n < 128 → nat_lt n 128 ≡ true
    test n lt = grind (arith, nat_tests)

pub visible_text : (text : List ℕ) → are_visible text ≡ true → IsUtf8 text
visible_text text h = IsUtf8-from_ascii text (low_bytes text (visible_low text h))

hex_visible : (text : List ℕ) → list_all is_ascii_hexdigit text ≡ true → are_visible text ≡ true
hex_visible [] h = refl
hex_visible (b ∷ text) h =
    let two = and_parts (is_ascii_hexdigit b) (list_all is_ascii_hexdigit text) h in
    and_from _ _ (digit b two.0) (hex_visible text two.1)
  where
    digit : (n : ℕ) → is_ascii_hexdigit n ≡ true → is_visible n ≡ true
    digit n is = grind (arith, nat_tests)

-- ---- the tree

abbrev parameter : List ℕ → List ℕ → Parameter
parameter name text = record { name = name; spelling = spelling text }

abbrev further : List ℕ → List ℕ → Further
further name text = record { before = []; behind = space ∷ []; parameter = parameter name text }

module _ (user realm nonce target response : List ℕ) where
  abbrev tree : CredentialTree
  tree = record {
    scheme = codes "Digest";
    spaces = [];
    first = parameter (codes "username") user;
    more = further (codes "realm") realm ∷ further (codes "nonce") nonce ∷ further (codes "uri") target ∷ further (codes "response") response ∷ [];
  }

  printed : value_with (quoted user) (quoted realm) (quoted nonce) (quoted target) (quoted response) ≡ print_credentials tree
  printed =
      (λ i. value_with (spelled user i) (spelled realm i) (spelled nonce i) (spelled target i) (spelled response i))
      ∙ ap (λ (last : List ℕ). value_with (print_spelling (spelling user)) (print_spelling (spelling realm)) (print_spelling (spelling nonce)) (print_spelling (spelling target)) last)
      (sym (append-nil (print_spelling (spelling response))))

  valid : IsCredentials tree
  unfolding is_token_byte
  valid = record {
    scheme_is = refl;
    spaces_are = refl;
    first_is = quotable_all user;
    more_are = and_from _ _ (quotable_all realm) (and_from _ _ (quotable_all nonce) (and_from _ _ (quotable_all target) (and_from _ _ (quotable_all response) refl)));
  }

  abbrev items_of : List ℕ → List ℕ → List ℕ → List ℕ → List ℕ → List Item
  items_of u r n t s =
      (record { name = codes "username"; value = u }) ∷ (record { name = codes "realm"; value = r }) ∷ (record { name = codes "nonce"; value = n })
      ∷ (record { name = codes "uri"; value = t }) ∷ (record { name = codes "response"; value = s }) ∷ []

  items_are : said_items tree ≡ items_of user realm nonce target response
  items_are = λ i. items_of (said_all user i) (said_all realm i) (said_all nonce i) (said_all target i) (said_all response i)

-- ---- what the items say

is_test : (text : List ℕ) → IsUtf8 text → is_utf8 text ≡ true
is_test text h = is_utf8-from_IsUtf8 text h

module _ (user nonce target response : List ℕ) (u : IsUtf8 user) (n : IsUtf8 nonce) (t : IsUtf8 target) (s : IsUtf8 response)
    (size : length response ≡ 32) (digits : list_all is_ascii_hexdigit response ≡ true) (low : map to_ascii_lowercase response ≡ response) where
  abbrev realm : List ℕ
  realm = codes "FDSN"

  realm_text : IsUtf8 realm
  realm_text = visible_text realm refl

  abbrev items : List Item
  items = items_of user realm nonce target response user realm nonce target response

  texts : are_texts items ≡ true
  texts =
      and_from _ _ (is_test user u) (and_from _ _ (is_test realm realm_text)
      (and_from _ _ (is_test nonce n) (and_from _ _ (is_test target t) (and_from _ _ (is_test response s) refl))))

  fit : are_fit items ≡ true
  fit = and_from _ _ (and_from _ _ (and_from _ _ texts refl) refl) refl

  digest : is_digest response ≡ true
  digest = and_from _ _ (thirty_two (length response) size) digits
    where
      thirty_two : (k : ℕ) → k ≡ 32 → (k == 32) ≡ true
      thirty_two k is = grind (arith, nat_tests)

  response_read : response_in response ≡ Some response
  response_read = cond-true _ _ _ digest ∙ ap text_in low ∙ text_found response s

  abbrev made : Option (List ℕ) → Option (List ℕ) → Option (List ℕ) → Option (List ℕ) → Option (List ℕ) → Option Authorization
  made a b c d e =
      option_and_then (λ user. option_and_then (λ realm. option_and_then (λ nonce. option_and_then (λ uri. option_and_then (λ response.
      Some (record { user = user; realm = realm; nonce = nonce; uri = uri; response = response; auth = None })) e) d) c) b) a

  parts : parts_said items ≡ Some (record { user = user; realm = realm; nonce = nonce; uri = target; response = response; auth = None })
  parts = λ i. made (text_found user u i) (text_found realm realm_text i) (text_found nonce n i) (text_found target t i) (response_read i)

  said : authorization_said items ≡ Some (record { user = user; realm = realm; nonce = nonce; uri = target; response = response; auth = None })
  said = cond-true _ _ _ fit ∙ parts

pub answer_reads_back : AnswerReadsBack
answer_reads_back user ha1 method target nonce u t n =
    let realm : List ℕ = codes "FDSN" in
    let response = response_of ha1 method target nonce None in
    let parts : List (List ℕ) = ha1 ∷ nonce ∷ digest_of (method ∷ target ∷ []) ∷ [] in
    let digits = digest_digits parts in
    record {
      credentials = tree user realm nonce target response;
      valid = valid user realm nonce target response;
      printed = printed user realm nonce target response;
      says =
          ap authorization_said (items_are user realm nonce target response)
          ∙ said user nonce target response (visible_text user u) (visible_text nonce n) (visible_text target t)
          (visible_text response (hex_visible response digits)) (digest_size parts) digits (digest_low parts);
    }

-- ---- the value is text

abbrev is_low : ℕ → Bool
is_low b = nat_lt b 128

low_join : (xs ys : List ℕ) → list_all is_low xs ≡ true → list_all is_low ys ≡ true → list_all is_low (xs ++ ys) ≡ true
low_join xs ys a b = list_all-append is_low xs ys ∙ and_from _ _ a b

low_escaped : (text : List ℕ) → list_all is_low text ≡ true → list_all is_low (flat_map escaped text) ≡ true
low_escaped [] h = refl
low_escaped (b ∷ text) h =
    let two = and_parts (is_low b) (list_all is_low text) h in
    low_join (escaped b) (flat_map escaped text) (by (is_special b) two.0) (low_escaped text two.1)
  where
    by : (t : Bool) → is_low b ≡ true → list_all is_low (if t then backslash ∷ b ∷ [] else b ∷ []) ≡ true
    by true low = and_from _ _ refl (and_from _ _ low refl)
    by false low = and_from _ _ low refl

low_quoted : (text : List ℕ) → are_visible text ≡ true → list_all is_low (quoted text) ≡ true
low_quoted text h = and_from _ _ refl (low_join (flat_map escaped text) (quotation_mark ∷ []) (low_escaped text (visible_low text h)) refl)

pub answer_is_text : (user ha1 method target nonce : List ℕ) → are_visible user ≡ true → are_visible target ≡ true → are_visible nonce ≡ true
    → IsUtf8 (authorization_text user ha1 method target nonce)
answer_is_text user ha1 method target nonce u t n =
    let response = response_of ha1 method target nonce None in
    let seen = hex_visible response (digest_digits (ha1 ∷ nonce ∷ digest_of (method ∷ target ∷ []) ∷ [])) in
    let with : (name value rest : List ℕ) → list_all is_low name ≡ true → list_all is_low value ≡ true → list_all is_low rest ≡ true → list_all is_low (name ++ (value ++ rest)) ≡ true =
    λ name value rest x y z. low_join name (value ++ rest) x (low_join value rest y z) in
    let last = codes ", response=" ++ quoted response in
    let four = codes ", uri=" ++ (quoted target ++ last) in
    let three = codes ", nonce=" ++ (quoted nonce ++ four) in
    let two = codes ", realm=" ++ (quoted (codes "FDSN") ++ three) in
    let low = low_join (codes ", response=") (quoted response) refl (low_quoted response seen) in
    let low_four = with (codes ", uri=") (quoted target) last refl (low_quoted target t) low in
    let low_three = with (codes ", nonce=") (quoted nonce) four refl (low_quoted nonce n) low_four in
    let low_two = with (codes ", realm=") (quoted (codes "FDSN")) three refl refl low_three in
    IsUtf8-from_ascii _ (low_bytes (authorization_text user ha1 method target nonce) (with (codes "Digest username=") (quoted user) two refl (low_quoted user u) low_two))

-- the five items, one behind the other
pub put_together : (user realm nonce target response b1 b2 b3 b4 b5 : List ℕ) → b1 ≡ codes "Digest username=" ++ quoted user → b2 ≡ b1 ++ (codes ", realm=" ++ quoted realm)
    → b3 ≡ b2 ++ (codes ", nonce=" ++ quoted nonce) → b4 ≡ b3 ++ (codes ", uri=" ++ quoted target) → b5 ≡ b4 ++ (codes ", response=" ++ quoted response)
    → b5 ≡ value_with (quoted user) (quoted realm) (quoted nonce) (quoted target) (quoted response)
put_together user realm nonce target response b1 b2 b3 b4 b5 e1 e2 e3 e4 e5 =
    let p1 = codes "Digest username=" ++ quoted user in
    let p2 = codes ", realm=" ++ quoted realm in
    let p3 = codes ", nonce=" ++ quoted nonce in
    let p4 = codes ", uri=" ++ quoted target in
    let p5 = codes ", response=" ++ quoted response in
    let on : (x y p : List ℕ) → x ≡ y → x ++ p ≡ y ++ p = λ x y p e. ap (λ (l : List ℕ). l ++ p) e in
    let c2 : b2 ≡ p1 ++ p2 = e2 ∙ on b1 p1 p2 e1 in
    let c3 : b3 ≡ p1 ++ (p2 ++ p3) = e3 ∙ on b2 (p1 ++ p2) p3 c2 ∙ append_assoc p1 p2 p3 in
    let c4 : b4 ≡ p1 ++ (p2 ++ (p3 ++ p4)) =
    e4 ∙ on b3 (p1 ++ (p2 ++ p3)) p4 c3 ∙ append_assoc p1 (p2 ++ p3) p4 ∙ ap (λ (l : List ℕ). p1 ++ l) (append_assoc p2 p3 p4) in
    e5 ∙ on b4 (p1 ++ (p2 ++ (p3 ++ p4))) p5 c4 ∙ append_assoc p1 (p2 ++ (p3 ++ p4)) p5
    ∙ ap (λ (l : List ℕ). p1 ++ l) (append_assoc p2 (p3 ++ p4) p5 ∙ ap (λ (l : List ℕ). p2 ++ l) (append_assoc p3 p4 p5))
