-- What the fields of revision lines spell.
use Rattle.std.specs.Prelude.{◌≡◌, ℕ, ◌≤◌, ◌==◌, ◌||◌, ◌&&◌, not, nat_le, ℤ, pos, ◌≤ℤ◌, unsigned_abs, Bool, true, IsTrue, List, [], ◌∷◌, length, Option, Some, None, if◌then◌else◌, codes, ⊤}
use Rattle.std.specs.List.{list_all, list_any, slice_split}
use Rattle.std.specs.Str.{bytes_eq, chars}
use Rattle.std.specs.Char.{is_ascii_alphanumeric, is_ascii_digit, is_control}
use Rattle.exact_time.specs.MomentText.{IsMoment}
use Rattle.exact_time.specs.Decimals.{IsDecimal, whole_of}
use Rattle.channel_globs.specs.PatternText.{is_blank, space, comma, IsPatternList}
use Rattle.channel_globs.specs.declared.nslc.Part.{Part}
use Rattle.channel_globs.specs.declared.nslc.Part.TheVariants.{Network, Station, Location, Channel}
use Rattle.epochs.specs.declared.quantity.Quantity.{Quantity}
use Rattle.epochs.specs.declared.quantity.Quantity.TheVariants.{Latitude, Longitude, Azimuth, Dip, Rate, Measure}
use Rattle.epochs.specs.declared.parts.Roles.{Roles}
use Rattle.epochs.specs.Kinds.{Text, FieldKind, CodeOf, Words, Time, End, Required, Optional, PatternsOf, EventId, UserName, Ha1, RoleNames, EntryNumber}

-- the value of a field, without where it lies in memory
pub data Value : Type 0 where
  code : Text → Value
  words : Text → Value
  time : ℤ → Value
  end : Option ℤ → Value
  number : ℤ → Value
  optional : Option ℤ → Value
  patterns : Text → List Text → Value
  roles : Roles → Value
  entry_number : ℕ → Value

-- how many letters and digits a code has
abbrev pub least_bytes : Part → ℕ
least_bytes Channel = 3
least_bytes _ = 1

abbrev pub most_bytes : Part → ℕ
most_bytes Network = 2
most_bytes Station = 5
most_bytes Location = 2
most_bytes Channel = 3

-- a code as it is written: letters and digits
abbrev pub is_code_text : Part → Text → Bool
is_code_text part text =
    nat_le (least_bytes part) (length text) && nat_le (length text) (most_bytes part)
    && list_all is_ascii_alphanumeric text

-- the code that a text spells; no text and `--` spell the blank location, two spaces
abbrev pub code_of : Part → Text → Option Text
code_of part text =
    if is_blank part text then Some (space ∷ space ∷ [])
    else (if is_code_text part text then Some text else None)

-- a number is one that the quantity may have, in millionths of its unit
abbrev pub IsQuantity : Quantity → ℤ → Type 0
IsQuantity Latitude n = unsigned_abs n ≤ 90_000_000
IsQuantity Longitude n = unsigned_abs n ≤ 180_000_000
IsQuantity Azimuth n = (pos 0 ≤ℤ n) × (n ≤ℤ pos 360_000_000)
IsQuantity Dip n = unsigned_abs n ≤ 90_000_000
IsQuantity Rate n = pos 0 ≤ℤ n
IsQuantity Measure n = ⊤

-- the text is a decimal of that quantity
pub record IsNumber (quantity : Quantity) (text : Text) (millionths : ℤ) : Type 0 where
  pub decimal : IsDecimal text millionths
  pub within : IsQuantity quantity millionths

-- a number may be left out
abbrev pub IsOptional : Quantity → Text → Option ℤ → Type 0
IsOptional quantity text None = text ≡ []
IsOptional quantity text (Some n) = IsNumber quantity text n

-- and so may an end
abbrev pub IsEnd : Text → Option ℤ → Type 0
IsEnd text None = text ≡ []
IsEnd text (Some micros) = IsMoment text micros

-- what stands between the fields of a line
abbrev pub bar : ℕ
bar = 124

abbrev pub has_control : Text → Bool
has_control text = list_any is_control (chars text)

abbrev pub has_bar : Text → Bool
has_bar text = list_any (λ c. c == bar) text

-- how many bytes words may have
abbrev pub most_words : ℕ
most_words = 200

-- short, without control characters (Unicode, general category Cc), and without bars
abbrev pub is_words : Text → Bool
is_words text = nat_le (length text) most_words && not (has_control text) && not (has_bar text)

-- a letter, a digit, or one of `_ - .`
abbrev pub is_name_byte : ℕ → Bool
is_name_byte c = is_ascii_alphanumeric c || c == 95 || c == 45 || c == 46

-- and in the id of an event also `:` and `/`
abbrev pub is_id_byte : ℕ → Bool
is_id_byte c = is_name_byte c || c == 58 || c == 47

abbrev pub is_event_id : Text → Bool
is_event_id text = nat_le 1 (length text) && nat_le (length text) 64 && list_all is_id_byte text

abbrev pub is_user_name : Text → Bool
is_user_name text = nat_le 1 (length text) && nat_le (length text) 32 && list_all is_name_byte text

-- a digit, or a letter from a to f
abbrev pub is_lower_hex : ℕ → Bool
is_lower_hex c = is_ascii_digit c || (nat_le 97 c && nat_le c 102)

-- an HA1 (RFC 2617, 3.2.2.2) as 32 hexadecimal digits
abbrev pub is_ha1 : Text → Bool
is_ha1 text = length text == 32 && list_all is_lower_hex text

-- whether a word is among these
abbrev pub has_word : Text → List Text → Bool
has_word word texts = list_any (λ text. bytes_eq text word) texts

abbrev pub are_distinct : List Text → Bool
are_distinct [] = true
are_distinct (word ∷ texts) = not (has_word word texts) && are_distinct texts

abbrev pub is_role : Text → Bool
is_role word =
    bytes_eq word (codes "reader") || bytes_eq word (codes "feed")
    || bytes_eq word (codes "operator") || bytes_eq word (codes "replica")

-- the roles of these words
abbrev pub roles_named : List Text → Roles
roles_named names = record {
  reader = has_word (codes "reader") names;
  feed = has_word (codes "feed") names;
  operator = has_word (codes "operator") names;
  replica = has_word (codes "replica") names;
}

abbrev pub role_words : Text → List Text
role_words text = slice_split (λ c. c == comma) text

-- the roles that a list by commas names, each a role and none twice
abbrev pub roles_of : Text → Option Roles
roles_of text =
    if list_all is_role (role_words text) && are_distinct (role_words text)
    then Some (roles_named (role_words text)) else None

-- the number of an entry: a whole number from 1 to 10^18
pub record IsEntryNumber (text : Text) (n : ℕ) : Type 0 where
  pub whole : whole_of text ≡ Some n
  pub some : 1 ≤ n
  pub small : n ≤ 1_000_000_000_000_000_000

-- the text of a field spells this value
abbrev pub IsField : FieldKind → Text → Value → Type 0
IsField (CodeOf part) text (code c) = code_of part text ≡ Some c
IsField Words text (words t) = (t ≡ text) × IsTrue (is_words text)
IsField Time text (time micros) = IsMoment text micros
IsField End text (end micros) = IsEnd text micros
IsField (Required quantity) text (number n) = IsNumber quantity text n
IsField (Optional quantity) text (optional n) = IsOptional quantity text n
IsField (PatternsOf part) text (patterns t list) = (t ≡ text) × IsPatternList part text list
IsField EventId text (words t) = (t ≡ text) × IsTrue (is_event_id text)
IsField UserName text (words t) = (t ≡ text) × IsTrue (is_user_name text)
IsField Ha1 text (words t) = (t ≡ text) × IsTrue (is_ha1 text)
IsField RoleNames text (roles r) = roles_of text ≡ Some r
IsField EntryNumber text (entry_number n) = IsEntryNumber text n
IsField _ text _ = ⊥
