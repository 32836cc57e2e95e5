-- How a client answers a challenge, without a quality of protection (RFC 2617, section 3.2.2; a server that asks for `auth` takes it,
-- for clients of RFC 2069).
use Rattle.std.specs.Prelude.{◌≡◌, ℕ, ◌==◌, ◌&&◌, ◌||◌, Bool, true, if◌then◌else◌, nat_lt, List, [], ◌∷◌, ◌++◌, None, codes}
use Rattle.std.specs.List.{list_all, flat_map}
use Rattle.http_digest.specs.Credentials.{quotation_mark, backslash}
use Rattle.http_digest.specs.Parts.{IsAuthorization}
use Rattle.http_digest.specs.Responses.{response_of}
use Rattle.http_digest.specs.declared.authorization.Authorization.{Authorization}

-- a visible character of ASCII
abbrev pub is_visible : ℕ → Bool
is_visible b = nat_lt 0x20 b && nat_lt b 0x7F

abbrev pub are_visible : List ℕ → Bool
are_visible text = list_all is_visible text

-- a quotation mark and a backslash stand behind a backslash
abbrev pub is_special : ℕ → Bool
is_special b = b == quotation_mark || b == backslash

abbrev pub escaped : ℕ → List ℕ
escaped b = if is_special b then backslash ∷ b ∷ [] else b ∷ []

-- a text in quotation marks
abbrev pub quoted : List ℕ → List ℕ
quoted text = quotation_mark ∷ (flat_map escaped text ++ quotation_mark ∷ [])

-- the value of the header Authorization: user, realm, nonce, target and response, each quoted
abbrev pub value_with : List ℕ → List ℕ → List ℕ → List ℕ → List ℕ → List ℕ
value_with user realm nonce target response =
    codes "Digest username=" ++ (user ++ (codes ", realm=" ++ (realm ++ (codes ", nonce=" ++ (nonce
    ++ (codes ", uri=" ++ (target ++ (codes ", response=" ++ response))))))))

abbrev pub authorization_text : List ℕ → List ℕ → List ℕ → List ℕ → List ℕ → List ℕ
authorization_text user ha1 method target nonce =
    value_with (quoted user) (quoted (codes "FDSN")) (quoted nonce) (quoted target) (quoted (response_of ha1 method target nonce None))

-- what it says
abbrev pub answer_meant : List ℕ → List ℕ → List ℕ → List ℕ → List ℕ → Authorization
answer_meant user ha1 method target nonce = record {
  user = user;
  realm = codes "FDSN";
  nonce = nonce;
  uri = target;
  response = response_of ha1 method target nonce None;
  auth = None;
}

-- Where user, nonce and target are visible characters, the value spells what it was made of.
abbrev pub AnswerReadsBack : Type 0
AnswerReadsBack = (user ha1 method target nonce : List ℕ) → are_visible user ≡ true → are_visible target ≡ true → are_visible nonce ≡ true
    → IsAuthorization (authorization_text user ha1 method target nonce) (answer_meant user ha1 method target nonce)
