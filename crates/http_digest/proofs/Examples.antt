-- The definitions, on texts.
use Rattle.std.proofs.Common.{◌≡◌, ℕ, true, false, List, [], ◌∷◌, refl, Some, None, codes}
use Rattle.hex.specs.Hex.{encode_with}
use Rattle.http_digest.specs.Challenge.{challenge_text}
use Rattle.http_digest.specs.Credentials.{is_token_byte, Plain, Escaped, Token, Quoted, Parameter, Further, CredentialTree, print_credentials, said_items}
use Rattle.http_digest.specs.Items.{items_in, behind_scheme}
use Rattle.http_digest.specs.Nonces.{second_digits, second_of}
use Rattle.http_digest.specs.Parts.{names_are_once, is_realm, is_algorithm, is_digest}
use Rattle.http_digest.specs.declared.item.Item.{Item}
use Rattle.std.proofs.Common.{pos}

-- an item with a quoted text, in which a quotation mark stands behind a backslash, and an item with a token
abbrev quoted_name : Parameter
quoted_name = record { name = codes "username"; spelling = Quoted (Plain 0x61 ∷ Escaped 0x22 ∷ Plain 0x2C ∷ []) }

abbrev token_realm : Further
token_realm = record { before = []; behind = codes " "; parameter = record { name = codes "realm"; spelling = Token (codes "FDSN") } }

abbrev two_items : CredentialTree
two_items = record { scheme = codes "Digest"; spaces = []; first = quoted_name; more = token_realm ∷ [] }

printed : print_credentials two_items ≡ codes "Digest username=\"a\\\",\", realm=FDSN"
printed = refl

abbrev item : List ℕ → List ℕ → Item
item name value = record { name = name; value = value }

said : said_items two_items ≡ item (codes "username") (codes "a\",") ∷ item (codes "realm") (codes "FDSN") ∷ []
said = refl

-- the same, read
read : items_in (codes "Digest username=\"a\\\",\", realm=FDSN") ≡ Some (item (codes "username") (codes "a\",") ∷ item (codes "realm") (codes "FDSN") ∷ [])
unfolding is_token_byte
read = refl

-- an empty item, a last comma, a space before the equals sign and a text that isn't closed are another form
empty_item : items_in (codes "Digest a=b,,c=d") ≡ None
unfolding is_token_byte
empty_item = refl

last_comma : items_in (codes "Digest a=b,") ≡ None
unfolding is_token_byte
last_comma = refl

spaced : items_in (codes "Digest a =b") ≡ None
unfolding is_token_byte
spaced = refl

open_text : items_in (codes "Digest a=\"b\\\"") ≡ None
unfolding is_token_byte
open_text = refl

-- the scheme in any case
any_case : behind_scheme (codes "dIGEST a") ≡ Some (codes "a")
any_case = refl

other_scheme : behind_scheme (codes "Basic a") ≡ None
other_scheme = refl

-- a name twice, whatever its case says
twice : names_are_once (item (codes "a") (codes "1") ∷ item (codes "b") (codes "2") ∷ item (codes "a") (codes "1") ∷ []) ≡ false
twice = refl

two_cases : names_are_once (item (codes "a") (codes "1") ∷ item (codes "A") (codes "1") ∷ []) ≡ true
two_cases = refl

lower_realm : is_realm (Some (codes "fdsn")) ≡ false
lower_realm = refl

lower_algorithm : is_algorithm (Some (codes "md5")) ≡ true
lower_algorithm = refl

short_digest : is_digest (codes "6629fae49393a05397450978507c4ef") ≡ false
short_digest = refl

-- the digits of 2024-03-01T00:00:00, and the second of its last microsecond
march : second_digits 1709251200 ≡ codes "0000000065e11a80"
unfolding encode_with
march = refl

whole_second : second_of (pos 1709251200999999) ≡ Some 1709251200
whole_second = refl

-- a challenge as a header says it
stale_challenge : challenge_text (record { nonce = codes "0000000065e11a80"; stale = true; digits = refl })
    ≡ codes "Digest realm=\"FDSN\", qop=\"auth\", algorithm=MD5, nonce=\"0000000065e11a80\", stale=true"
stale_challenge = refl

first_challenge : challenge_text (record { nonce = codes "0"; stale = false; digits = refl }) ≡ codes "Digest realm=\"FDSN\", qop=\"auth\", algorithm=MD5, nonce=\"0\""
first_challenge = refl
