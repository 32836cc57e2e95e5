-- The credentials of the digest scheme as the value of the header Authorization (RFC 2617, section 3.2.2):
-- each form as a tree, the bytes that it prints, and which trees are valid.
use Rattle.std.specs.Prelude.{◌≡◌, ℕ, ◌==◌, ◌&&◌, ◌||◌, not, Bool, true, false, List, [], ◌∷◌, ◌++◌, map, codes}
use Rattle.std.specs.List.{list_all, list_any, flat_map}
use Rattle.std.specs.Char.{is_ascii_alphanumeric}
use Rattle.std.specs.Str.{str_eq_ignore_ascii_case}
use Rattle.http_digest.specs.declared.item.Item.{Item}

abbrev pub space : ℕ
space = 0x20

abbrev pub quotation_mark : ℕ
quotation_mark = 0x22

abbrev pub comma : ℕ
comma = 0x2C

abbrev pub equals_sign : ℕ
equals_sign = 0x3D

abbrev pub backslash : ℕ
backslash = 0x5C

-- a byte of a token: a letter, a digit or one of these marks (RFC 2616, section 2.2)
abbrev pub is_mark : ℕ → Bool
is_mark b = list_any (λ c. c == b) (codes "!#$%&'*+-.^_`|~")

unfoldable pub is_token_byte : ℕ → Bool
is_token_byte b = is_ascii_alphanumeric b || is_mark b

-- at least one of them
abbrev pub is_token : List ℕ → Bool
is_token [] = false
is_token (b ∷ text) = is_token_byte b && list_all is_token_byte text

-- a byte of a quoted text, as itself or behind a backslash
pub data QuotedByte : Type 0 where
  Plain : ℕ → QuotedByte
  Escaped : ℕ → QuotedByte

abbrev pub print_byte : QuotedByte → List ℕ
print_byte (Plain b) = b ∷ []
print_byte (Escaped b) = backslash ∷ b ∷ []

abbrev pub said_byte : QuotedByte → ℕ
said_byte (Plain b) = b
said_byte (Escaped b) = b

-- a quotation mark and a backslash stand behind a backslash; every other byte may
abbrev pub is_quotable : QuotedByte → Bool
is_quotable (Plain b) = not (b == quotation_mark) && not (b == backslash)
is_quotable (Escaped b) = true

-- a value: a token, or a text in quotation marks
pub data Spelling : Type 0 where
  Token : List ℕ → Spelling
  Quoted : List QuotedByte → Spelling

abbrev pub print_spelling : Spelling → List ℕ
print_spelling (Token text) = text
print_spelling (Quoted bytes) = quotation_mark ∷ (flat_map print_byte bytes ++ quotation_mark ∷ [])

abbrev pub said_spelling : Spelling → List ℕ
said_spelling (Token text) = text
said_spelling (Quoted bytes) = map said_byte bytes

abbrev pub is_spelling : Spelling → Bool
is_spelling (Token text) = is_token text
is_spelling (Quoted bytes) = list_all is_quotable bytes

-- an item: a name, and a value behind an equals sign
pub record Parameter : Type 0 where
  pub name : List ℕ
  pub spelling : Spelling

abbrev pub print_parameter : Parameter → List ℕ
print_parameter p = p.name ++ equals_sign ∷ print_spelling p.spelling

abbrev pub is_parameter : Parameter → Bool
is_parameter p = is_token p.name && is_spelling p.spelling

-- the item as its name and the text that its value says
abbrev pub said_parameter : Parameter → Item
said_parameter p = record { name = p.name; value = said_spelling p.spelling }

-- spaces, any number of them
abbrev pub are_spaces : List ℕ → Bool
are_spaces text = list_all (λ b. b == space) text

-- a further item behind a comma, with spaces before and behind the comma
pub record Further : Type 0 where
  pub before : List ℕ
  pub behind : List ℕ
  pub parameter : Parameter

abbrev pub print_further : Further → List ℕ
print_further f = f.before ++ comma ∷ (f.behind ++ print_parameter f.parameter)

abbrev pub is_further : Further → Bool
is_further f = are_spaces f.before && are_spaces f.behind && is_parameter f.parameter

-- the name of the scheme, a space and maybe more, and the items
pub record CredentialTree : Type 0 where
  pub scheme : List ℕ
  pub spaces : List ℕ
  pub first : Parameter
  pub more : List Further

abbrev pub print_items : Parameter → List Further → List ℕ
print_items first more = print_parameter first ++ flat_map print_further more

abbrev pub print_credentials : CredentialTree → List ℕ
print_credentials c = c.scheme ++ space ∷ (c.spaces ++ print_items c.first c.more)

-- the name of the scheme is `Digest` in any case
pub record IsCredentials (c : CredentialTree) : Type 0 where
  pub scheme_is : str_eq_ignore_ascii_case c.scheme (codes "Digest") ≡ true
  pub spaces_are : are_spaces c.spaces ≡ true
  pub first_is : is_parameter c.first ≡ true
  pub more_are : list_all is_further c.more ≡ true

-- the items, in order, each as its name and its text
abbrev pub said_items : CredentialTree → List Item
said_items c = said_parameter c.first ∷ map (λ f. said_parameter f.parameter) c.more
