-- What a block says: the head of a request, as the grammar of `httparse` reads it, and the tests of that
-- head in their order.
use Rattle.std.specs.Prelude.{◌≡◌, ℕ, ◌-◌, ◌==◌, ◌&&◌, ◌||◌, not, Bool, true, false, if◌then◌else◌, nat_lt, nat_le, unwrap_or, List, [], ◌∷◌, length, take, drop, map, Option, Some, None, Result, Ok, Err, codes}
use Rattle.std.specs.List.{list_all, list_any, slice_split, prefix_len, suffix_len}
use Rattle.std.specs.Char.{is_ascii_digit, is_ascii_uppercase, is_ascii_whitespace}
use Rattle.std.specs.Str.{bytes_eq, str_eq_ignore_ascii_case, str_to_ascii_lowercase}
use Rattle.std.specs.Str.Parse.{digits_value}
use Rattle.httparse.specs.Ascii.{comma}
use Rattle.httparse.specs.Grammar.{RequestHead, ReadsRequest, is_token, is_value_byte, is_uri_byte}
use Rattle.httparse.specs.Spans.{name_and_value}
use Rattle.http_wire.specs.declared.block.BlockEnd.{BlockEnd}
use Rattle.http_wire.specs.declared.block.BlockEnd.TheVariants.{Block, Long, Ended}
use Rattle.http_wire.specs.declared.ending.HeadFault.{HeadFault}
use Rattle.http_wire.specs.declared.ending.HeadFault.TheVariants.{TargetTooLong, HeadTooLong, BadHead, TooManyHeaders, BadLength, NoLength, BodyTooLong}
use Rattle.http_wire.specs.declared.ending.StreamEnd.{StreamEnd}
use Rattle.http_wire.specs.declared.ending.StreamEnd.TheVariants as end
use Rattle.http_wire.specs.Fronts.{has_long_target}

-- what a head says: method and target as they stand, the minor version, and each field's name in lower
-- case with its value, in order
pub record HeadView : Type 0 where
  pub method : List ℕ
  pub target : List ℕ
  pub minor : ℕ
  pub fields : List (List ℕ × List ℕ)

-- a field with its name in lower case
abbrev pub in_lower_case : List ℕ × List ℕ → List ℕ × List ℕ
in_lower_case field = (str_to_ascii_lowercase field.0, field.1)

-- what a head of the grammar says
abbrev pub head_said : RequestHead → HeadView
head_said tree = record {
  method = tree.method;
  target = tree.target;
  minor = tree.minor;
  fields = map in_lower_case (map name_and_value tree.fields);
}

-- a block reads as the head that all of it prints, or as none where there is no such head
abbrev pub ReadsBlock : List ℕ → Option HeadView → Type 0
ReadsBlock block None = (tree : RequestHead) → ¬ (ReadsRequest block tree [])
ReadsBlock block (Some head) = (tree : RequestHead) × ReadsRequest block tree [] × (head ≡ head_said tree)

-- the name of the field is this one
abbrev pub is_field : List ℕ → List ℕ × List ℕ → Bool
is_field name field = bytes_eq field.0 name

-- there is a field of this name
abbrev pub has_field : List ℕ → List (List ℕ × List ℕ) → Bool
has_field name fields = list_any (is_field name) fields

-- how many digits a length may have, and how many fields a head
abbrev pub digit_limit : ℕ
digit_limit = 18

abbrev pub field_limit : ℕ
field_limit = 64

-- the number that 1 to 18 digits stand for; any other text stands for none
abbrev pub length_in : List ℕ → Option ℕ
length_in text =
    if nat_le 1 (length text) && nat_le (length text) digit_limit && list_all is_ascii_digit text then Some (digits_value 10 text) else None

-- what the first Content-Length stands for
abbrev pub first_length : List (List ℕ × List ℕ) → Option ℕ
first_length [] = None
first_length (field ∷ fields) = if is_field (codes "content-length") field then length_in field.1 else first_length fields

-- both stand for one number
abbrev pub gives_same : Option ℕ → Option ℕ → Bool
gives_same (Some n) (Some m) = n == m
gives_same _ _ = false

-- the field is a Content-Length that doesn't stand for this number
abbrev pub gives_other : Option ℕ → List ℕ × List ℕ → Bool
gives_other number field = is_field (codes "content-length") field && not (gives_same (length_in field.1) number)

-- a Content-Length stands for no number, or for another one than the first
abbrev pub has_bad_length : List (List ℕ × List ℕ) → Bool
has_bad_length fields = list_any (gives_other (first_length fields)) fields

-- the body's length isn't said: there is a Transfer-Encoding, or a POST has no Content-Length
abbrev pub lacks_length : List ℕ → List (List ℕ × List ℕ) → Bool
lacks_length method fields =
    has_field (codes "transfer-encoding") fields || (bytes_eq method (codes "POST") && not (has_field (codes "content-length") fields))

-- how many bytes the body has
abbrev pub body_length : List (List ℕ × List ℕ) → ℕ
body_length fields = unwrap_or (first_length fields) 0

-- the first test that a head fails, where a body may have `most` bytes
abbrev pub head_fault : ℕ → HeadView → Option HeadFault
head_fault most head =
    if nat_lt field_limit (length head.fields) then Some TooManyHeaders
    else (if has_bad_length head.fields then Some BadLength
    else (if lacks_length head.method head.fields then Some NoLength
    else (if nat_lt most (body_length head.fields) then Some (BodyTooLong (body_length head.fields)) else None)))

-- the head, unless it has a fault
abbrev pub unless_faulty : HeadView → Option HeadFault → Result HeadView HeadFault
unless_faulty head None = Ok head
unless_faulty head (Some fault) = Err fault

-- what is read of a block is a head that stands the tests, or a fault
abbrev pub checked : ℕ → Option HeadView → Result HeadView HeadFault
checked most None = Err BadHead
checked most (Some head) = unless_faulty head (head_fault most head)

-- a block says this: a head that stands all tests, or its first fault
pub record BlockSays (most : ℕ) (block : List ℕ) (says : Result HeadView HeadFault) : Type 0 where
  pub read : Option HeadView
  pub reads : ReadsBlock block read
  pub is : checked most read ≡ says

-- a fault of a head ends the stream
abbrev pub or_ends : Result HeadView HeadFault → Result HeadView StreamEnd
or_ends (Ok head) = Ok head
or_ends (Err fault) = Err (end.Head fault)

-- the input ended between requests where nothing but blank bytes was left, and else inside one
abbrev pub end_behind : List ℕ → StreamEnd
end_behind [] = end.End
end_behind (b ∷ bytes) = end.Cut

-- what a front says behind the test of its target: a block what it reads as, any other one its end
abbrev pub KindSays : ℕ → List ℕ → BlockEnd → Result HeadView StreamEnd → Type 0
KindSays most front (Block n) says = (said : Result HeadView HeadFault) × BlockSays most front said × (says ≡ or_ends said)
KindSays most front Long says = says ≡ Err (end.Head HeadTooLong)
KindSays most front Ended says = says ≡ Err (end_behind front)

-- a front says this: a head that stands all tests, or how the stream ends there; the target is tested first
pub record FrontSays (most : ℕ) (front : List ℕ) (kind : BlockEnd) (says : Result HeadView StreamEnd) : Type 0 where
  pub long : has_long_target front ≡ true → says ≡ Err (end.Head TargetTooLong)
  pub other : has_long_target front ≡ false → KindSays most front kind says

-- the text without the white space of ASCII at both ends; in a value that is spaces and tabs
abbrev pub trimmed : List ℕ → List ℕ
trimmed text =
    let rest = drop (prefix_len is_ascii_whitespace text) text in
    take (length rest - suffix_len is_ascii_whitespace rest) rest

-- the item of a list by commas is `close`, in any case, with white space around it or none
abbrev pub is_close : List ℕ → Bool
is_close item = str_eq_ignore_ascii_case (trimmed item) (codes "close")

-- the field is a Connection that has that item
abbrev pub wants_close : List ℕ × List ℕ → Bool
wants_close field = is_field (codes "connection") field && list_any is_close (slice_split (λ b. b == comma) field.1)

-- a request closes where it is of HTTP/1.0, or where a Connection says so
abbrev pub closes : HeadView → Bool
closes head = head.minor == 0 || list_any wants_close head.fields

-- the field is an Expect whose whole value is `100-continue`, in any case
abbrev pub expects_continue : List ℕ × List ℕ → Bool
expects_continue field = is_field (codes "expect") field && str_eq_ignore_ascii_case field.1 (codes "100-continue")

-- a request asks for the interim reply: it is of HTTP/1.1, has a body, and expects it
abbrev pub asks_interim : HeadView → Bool
asks_interim head = head.minor == 1 && nat_lt 0 (body_length head.fields) && list_any expects_continue head.fields

-- what is sent before the body is taken
abbrev pub interim_of : HeadView → List ℕ
interim_of head = if asks_interim head then codes "HTTP/1.1 100 Continue\r\n\r\n" else []

-- a token without upper case
abbrev pub is_lower_token : List ℕ → Bool
is_lower_token text = is_token text && list_all (λ b. not (is_ascii_uppercase b)) text

-- a value without control bytes but tabs
abbrev pub is_value : List ℕ → Bool
is_value text = list_all is_value_byte text

-- one byte or more, none of them a space or a control byte
abbrev pub is_target : List ℕ → Bool
is_target text = nat_lt 0 (length text) && list_all is_uri_byte text
