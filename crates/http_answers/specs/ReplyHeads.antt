-- What the head of a reply says (RFC 9112, sections 4 to 6).
use Rattle.std.specs.Prelude.{ℕ, ◌^◌, ◌==◌, ◌&&◌, Bool, if◌then◌else◌, nat_eq, nat_lt, nat_le, List, [], ◌∷◌, length, take, drop, map, slice_index, Option, Some, None, codes}
use Rattle.std.specs.List.{list_all, starts_with}
use Rattle.std.specs.Char.{is_ascii_digit, is_ascii_hexdigit}
use Rattle.std.specs.Str.{str_eq_ignore_ascii_case}
use Rattle.std.specs.Str.Parse.{digits_value}
use Rattle.httparse.specs.Grammar.{ResponseHead, status_code}
use Rattle.httparse.specs.Spans.{name_and_value}
use Rattle.http_wire.specs.Heads.{length_in}

-- the value of the first field of a name, in any case
abbrev pub value_of : List ℕ → List (List ℕ × List ℕ) → Option (List ℕ)
value_of name [] = None
value_of name (field ∷ fields) = if str_eq_ignore_ascii_case field.0 name then Some field.1 else value_of name fields

-- what a value says, where there is one
abbrev pub then_read : {X Y : Type 0} → (X → Option Y) → Option X → Option Y
then_read read None = None
then_read read (Some x) = read x

-- the number, where it is below 2^64
abbrev pub narrow : ℕ → Option ℕ
narrow n = if nat_lt n (2 ^ 64) then Some n else None

-- a number of entries: 1 to 20 digits, for a number below 2^64
abbrev pub front_in : List ℕ → Option ℕ
front_in text =
    if nat_le 1 (length text) && nat_le (length text) 20 && list_all is_ascii_digit text then narrow (digits_value 10 text) else None

-- 48 hexadecimal digits and a quotation mark stand here
abbrev pub has_nonce : List ℕ → Bool
has_nonce text = nat_le 49 (length text) && (list_all is_ascii_hexdigit (take 48 text) && slice_index (drop 48 text) 0 == 34)

-- a quoted nonce stands here, behind its name
abbrev pub begins_nonce : List ℕ → Bool
begins_nonce text = starts_with nat_eq text (codes "nonce=\"") && has_nonce (drop 7 text)

-- the first one of a challenge
abbrev pub nonce_in : List ℕ → Option (List ℕ)
nonce_in [] = None
nonce_in (b ∷ bytes) = if begins_nonce (b ∷ bytes) then Some (take 48 (drop 7 (b ∷ bytes))) else nonce_in bytes

-- how many bytes the body has, by the status and the value of Content-Length: none where the status is 204
abbrev pub size_of : ℕ → Option (List ℕ) → Option ℕ
size_of status value = if status == 204 then Some 0 else then_read length_in value

-- what the head of a reply says: its status, the number of entries that it speaks of, the nonce of its challenge, and how long
-- the body is
pub record Said : Type 0 where
  pub status : ℕ
  pub front : Option ℕ
  pub nonce : Option (List ℕ)
  pub size : Option ℕ

-- what it says by its status and its fields
abbrev pub said_by : ℕ → List (List ℕ × List ℕ) → Said
said_by status fields = record {
  status = status;
  front = then_read front_in (value_of (codes "x-archive-front") fields);
  nonce = then_read nonce_in (value_of (codes "www-authenticate") fields);
  size = size_of status (value_of (codes "content-length") fields);
}

-- what a head of the grammar says
abbrev pub said : ResponseHead → Said
said tree = said_by (status_code tree) (map name_and_value tree.fields)
