-- The bytes of a request without a body (RFC 9112, sections 3 and 5), and what a server makes of them.
use Rattle.std.specs.Prelude.{◌≡◌, ℕ, ◌≤◌, false, List, [], ◌++◌, length, map, codes, flat_map, IsUtf8}
use Rattle.std.specs.List.{AllByRecursion}
use Rattle.std.specs.Str.{bytes_eq}
use Rattle.httparse.specs.Ascii.{crlf_bytes}
use Rattle.httparse.specs.Grammar.{trim_ows}
use Rattle.http_replies.specs.Replies.{field_line}
use Rattle.http_wire.specs.FieldPairs.{as_pair}
use Rattle.http_wire.specs.Fronts.{front_limit, target_limit}
use Rattle.http_wire.specs.Heads.{HeadView, field_limit, has_field}
use Rattle.http_wire.specs.Items.{IsRequest}
use Rattle.http_wire.specs.declared.field.Field.{Field}
use Rattle.http_answers.specs.declared.asked.Asked.{Asked}

-- the first line, of HTTP/1.1
abbrev pub request_line : Asked → List ℕ
request_line asked = asked.method ++ (codes " " ++ (asked.target ++ codes " HTTP/1.1\r\n"))

-- a line for each field, its name as it stands
abbrev pub lines_of : List Field → List ℕ
lines_of fields = flat_map (λ field. field_line (as_pair field)) fields

-- the lines of the fields, and an empty line
abbrev pub rest_of : Asked → List ℕ
rest_of asked = lines_of asked.fields ++ crlf_bytes

abbrev pub request_bytes : Asked → List ℕ
request_bytes asked = request_line asked ++ rest_of asked

-- what is meant by it
abbrev pub head_meant : Asked → HeadView
head_meant asked = record { method = asked.method; target = asked.target; minor = 1; fields = map as_pair asked.fields }

-- A request that a server takes as it is meant, by the limits of `http_wire`: its target is text and not too long, there are not
-- too many fields, and not too many bytes in all; it isn't a POST, which needs a body, and says nothing of a body; and no white
-- space stands around a value.
pub record IsPlain (asked : Asked) : Type 0 where
  pub text : IsUtf8 asked.target
  pub target : length asked.target ≤ target_limit
  pub few : length asked.fields ≤ field_limit
  pub size : length (request_bytes asked) ≤ front_limit
  pub method : bytes_eq asked.method (codes "POST") ≡ false
  pub no_length : has_field (codes "content-length") (map as_pair asked.fields) ≡ false
  pub no_coding : has_field (codes "transfer-encoding") (map as_pair asked.fields) ≡ false
  pub values : AllByRecursion (λ (field : Field). trim_ows field.value ≡ field.value) asked.fields

-- Its bytes are that request, and bytes that begin with them begin with no other.
abbrev pub RequestReadsBack : Type 0
RequestReadsBack = (asked : Asked) (most : ℕ) → IsPlain asked → IsRequest front_limit most (request_bytes asked) (head_meant asked) []

abbrev pub RequestReadsAsNoOther : Type 0
RequestReadsAsNoOther = (asked : Asked) (most : ℕ) (rest used behind : List ℕ) (head : HeadView) (body : List ℕ) → IsPlain asked
    → request_bytes asked ++ rest ≡ used ++ behind → IsRequest front_limit most used head body → (head ≡ head_meant asked) × (body ≡ []) × (behind ≡ rest)
