-- The bytes of a reply (RFC 9112, sections 4 and 5): a head, whose lines end with CR LF, and a body.
use Rattle.std.specs.Prelude.{◌≡◌, ℕ, ◌==◌, Bool, true, if◌then◌else◌, unwrap_or, List, [], ◌∷◌, ◌++◌, length, None, Some, IsSome, codes, decimal, flat_map}
use Rattle.std.specs.declared.option.Option.{Option}
use Rattle.std.specs.List.{list_any}
use Rattle.httparse.specs.Ascii.{space, crlf_bytes}
use Rattle.http.specs.StatusCode.{reason_phrase}
use Rattle.http_digest.specs.declared.challenges.Challenge.{Challenge}
use Rattle.http_digest.specs.Challenge.{challenge_text}
use Rattle.http_replies.specs.declared.reply.Allow.{Allow}
use Rattle.http_replies.specs.declared.reply.Allow.TheVariants as allow
use Rattle.http_replies.specs.declared.reply.BodyKind.{BodyKind}
use Rattle.http_replies.specs.declared.reply.BodyKind.TheVariants as kind
use Rattle.http_replies.specs.declared.reply.Reply.{Reply}

-- the statuses of replies
abbrev pub statuses : List ℕ
statuses = 200 ∷ 204 ∷ 400 ∷ 401 ∷ 403 ∷ 404 ∷ 405 ∷ 409 ∷ 411 ∷ 413 ∷ 414 ∷ 431 ∷ 500 ∷ 503 ∷ 507 ∷ []

abbrev pub is_status : ℕ → Bool
is_status n = list_any (λ status. status == n) statuses

-- the phrase of a status (RFC 9110, section 15), as the crate `http` has it
abbrev pub phrase : ℕ → List ℕ
phrase status = unwrap_or (reason_phrase status) []

-- the first line
abbrev pub status_line : ℕ → List ℕ
status_line status = codes "HTTP/1.1 " ++ (decimal status ++ (space ∷ (phrase status ++ crlf_bytes)))

-- the line of a field, which is a name and a value
abbrev pub field_line : List ℕ × List ℕ → List ℕ
field_line field = field.0 ++ (codes ": " ++ (field.1 ++ crlf_bytes))

-- what the body is a file of
abbrev pub media_type : BodyKind → List ℕ
media_type kind.Miniseed = codes "application/vnd.fdsn.mseed"
media_type kind.Octets = codes "application/octet-stream"
media_type kind.Plain = codes "text/plain"

-- the body that a reply has: that of 500 is fixed, and 204 has none
abbrev pub body_of : Reply → List ℕ
body_of reply =
    if reply.status == 500 then codes "Error 500: out of memory\n" else (if reply.status == 204 then [] else reply.body)

-- what is said of the body, which is nothing for 204
abbrev pub content_fields : Reply → List (List ℕ × List ℕ)
content_fields reply =
    if reply.status == 204 then []
    else (codes "Content-Type", media_type reply.kind) ∷ (codes "Content-Length", decimal (length (body_of reply))) ∷ []

-- how to ask again with credentials, for 401 alone (RFC 9110, section 11.6.1)
abbrev pub challenge_fields : ℕ → Option Challenge → List (List ℕ × List ℕ)
challenge_fields status None = []
challenge_fields status (Some challenge) =
    if status == 401 then (codes "WWW-Authenticate", challenge_text challenge) ∷ [] else []

abbrev pub allow_text : Allow → List ℕ
allow_text allow.Get = codes "GET"
allow_text allow.Post = codes "POST"
allow_text allow.Both = codes "GET, POST"

-- which methods the path has, for 405 alone (RFC 9110, section 10.2.1)
abbrev pub allow_fields : ℕ → Option Allow → List (List ℕ × List ℕ)
allow_fields status None = []
allow_fields status (Some methods) = if status == 405 then (codes "Allow", allow_text methods) ∷ [] else []

-- whether the connection closes behind the reply (RFC 9112, section 9.6)
abbrev pub close_fields : Bool → List (List ℕ × List ℕ)
close_fields close = if close then (codes "Connection", codes "close") ∷ [] else []

-- the fields of a reply, in order
abbrev pub reply_fields : Reply → List (List ℕ × List ℕ)
reply_fields reply =
    content_fields reply ++ (challenge_fields reply.status reply.challenge ++ (allow_fields reply.status reply.allow
    ++ ((codes "X-Archive-Front", decimal reply.front) ∷ close_fields reply.close)))

-- the head: the first line, a line for each field, and an empty line
abbrev pub reply_head : Reply → List ℕ
reply_head reply = status_line reply.status ++ (flat_map field_line (reply_fields reply) ++ crlf_bytes)

-- what follows the head: the body, unless the head alone is wanted
abbrev pub sent_body : Reply → List ℕ
sent_body reply = if reply.head_only then [] else body_of reply

abbrev pub reply_bytes : Reply → List ℕ
reply_bytes reply = reply_head reply ++ sent_body reply

-- what a reply must have: a status of these; for 401 a challenge; and for 405 the methods that are allowed
pub record IsSendable (reply : Reply) : Type 0 where
  pub status : is_status reply.status ≡ true
  pub challenge : reply.status ≡ 401 → IsSome reply.challenge
  pub allow : reply.status ≡ 405 → IsSome reply.allow
