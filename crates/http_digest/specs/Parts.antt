-- What the items of credentials say (RFC 2617, section 3.2.2), or that they are no answer to a challenge.
use Rattle.std.specs.Prelude.{◌≡◌, ℕ, ◌==◌, ◌&&◌, Bool, true, false, if◌then◌else◌, is_none, List, [], ◌∷◌, length, map, Option, Some, None, option_and_then, codes}
use Rattle.std.specs.List.{list_all}
use Rattle.std.specs.Char.{is_ascii_hexdigit, to_ascii_lowercase}
use Rattle.std.specs.Str.{bytes_eq, is_utf8, str_eq_ignore_ascii_case}
use Rattle.http_digest.specs.Credentials.{CredentialTree, print_credentials, IsCredentials, said_items}
use Rattle.http_digest.specs.declared.authorization.AuthPart.{AuthPart}
use Rattle.http_digest.specs.declared.authorization.Authorization.{Authorization}
use Rattle.http_digest.specs.declared.authorization.AuthFault.{AuthFault}
use Rattle.http_digest.specs.declared.authorization.AuthFault.TheVariants.{Unreadable, OutOfMemory}
use Rattle.http_digest.specs.declared.item.Item.{Item}

infixl 10 ◌>>=◌
abbrev pub ◌>>=◌ : {A B : Type 0} → Option A → (A → Option B) → Option B
o >>= f = option_and_then f o

-- the text of the first item of that name
abbrev pub value_of : List ℕ → List Item → Option (List ℕ)
value_of name [] = None
value_of name (item ∷ items) = if bytes_eq item.name name then Some item.value else value_of name items

-- no name stands twice
abbrev pub names_are_once : List Item → Bool
names_are_once [] = true
names_are_once (item ∷ items) = is_none (value_of item.name items) && names_are_once items

-- each value is UTF-8
abbrev pub are_texts : List Item → Bool
are_texts items = list_all (λ item. is_utf8 item.value) items

-- the bytes, where they are UTF-8
abbrev pub text_in : List ℕ → Option (List ℕ)
text_in bytes = if is_utf8 bytes then Some bytes else None

-- the text of an item that has to be there
abbrev pub required : List ℕ → List Item → Option (List ℕ)
required name items = value_of name items >>= text_in

-- the realm is FDSN
abbrev pub is_realm : Option (List ℕ) → Bool
is_realm None = false
is_realm (Some realm) = bytes_eq realm (codes "FDSN")

-- the algorithm is MD5 in any case, or isn't said
abbrev pub is_algorithm : Option (List ℕ) → Bool
is_algorithm None = true
is_algorithm (Some name) = str_eq_ignore_ascii_case name (codes "MD5")

-- the tests of all the items
abbrev pub are_fit : List Item → Bool
are_fit items =
    are_texts items && names_are_once items && is_realm (value_of (codes "realm") items) && is_algorithm (value_of (codes "algorithm") items)

-- 32 hexadecimal digits in either case
abbrev pub is_digest : List ℕ → Bool
is_digest text = length text == 32 && list_all is_ascii_hexdigit text

-- a response, its upper-case digits read as lower-case ones
abbrev pub response_in : List ℕ → Option (List ℕ)
response_in text = if is_digest text then text_in (map to_ascii_lowercase text) else None

-- what the one quality of protection asks for
abbrev pub part_said : List Item → Option AuthPart
part_said items = do
  nc ← required (codes "nc") items
  cnonce ← required (codes "cnonce") items
  Some (record { nc = nc; cnonce = cnonce })

-- where a quality of protection is said, it is `auth`, with nc and cnonce; else these are passed over
abbrev pub auth_said : List Item → Option (List ℕ) → Option (Option AuthPart)
auth_said items None = Some None
auth_said items (Some qop) = if bytes_eq qop (codes "auth") then part_said items >>= (λ part. Some (Some part)) else None

-- the parts, where each that has to be there is
abbrev pub parts_said : List Item → Option Authorization
parts_said items = do
  user ← required (codes "username") items
  realm ← required (codes "realm") items
  nonce ← required (codes "nonce") items
  uri ← required (codes "uri") items
  response ← value_of (codes "response") items >>= response_in
  auth ← auth_said items (value_of (codes "qop") items)
  Some (record { user = user; realm = realm; nonce = nonce; uri = uri; response = response; auth = auth })

-- what the items say: their tests are met, and the parts are there
abbrev pub authorization_said : List Item → Option Authorization
authorization_said items = if are_fit items then parts_said items else None

-- The value of a header spells this authorization: it is what valid credentials print, and their items say it.
pub record IsAuthorization (header : List ℕ) (a : Authorization) : Type 0 where
  pub credentials : CredentialTree
  pub valid : IsCredentials credentials
  pub printed : header ≡ print_credentials credentials
  pub says : authorization_said (said_items credentials) ≡ Some a

-- the fault of a value that spells no authorization
abbrev pub IsAuthFault : List ℕ → AuthFault → Type 0
IsAuthFault header Unreadable = (a : Authorization) → ¬ (IsAuthorization header a)
IsAuthFault header OutOfMemory = ⊥

-- why no authorization was read; want of memory is free
abbrev pub RefusesHeader : List ℕ → AuthFault → Type 0
RefusesHeader header Unreadable = IsAuthFault header Unreadable
RefusesHeader header OutOfMemory = Unit {0}
