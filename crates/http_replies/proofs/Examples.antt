-- The definitions, on replies.
use Rattle.std.proofs.Common.{◌≡◌, ℕ, true, false, List, [], ◌∷◌, map, refl, Some, None}
use Rattle.std.specs.Prelude.{codes, replicate}
use Rattle.std.specs.Fmt.{digits}
use Rattle.http_replies.specs.Replies.{statuses, phrase, status_line, challenge_fields, allow_fields, is_status, reply_bytes, body_of}
use Rattle.http_replies.specs.declared.reply.Allow.TheVariants as allow
use Rattle.http_replies.specs.declared.reply.BodyKind.TheVariants as kind
use Rattle.http_replies.specs.declared.reply.Reply.{Reply}

-- a reply with this status and this body
abbrev reply : ℕ → List ℕ → Reply
reply status body = record {
  status = status;
  kind = kind.Plain;
  challenge = None;
  allow = None;
  front = 1;
  body = body;
  close = true;
  head_only = false;
}

-- the reply that tells the version of a service
version : reply_bytes (reply 200 (codes "1.2.0\n"))
    ≡ codes "HTTP/1.1 200 OK\r\nContent-Type: text/plain\r\nContent-Length: 6\r\nX-Archive-Front: 1\r\nConnection: close\r\n\r\n1.2.0\n"
unfolding digits
version = refl

-- no content has no line of it
no_content : reply_bytes (reply 204 (codes "left out")) ≡ codes "HTTP/1.1 204 No Content\r\nX-Archive-Front: 1\r\nConnection: close\r\n\r\n"
unfolding digits
no_content = refl

-- the body of 500 is fixed
no_memory : body_of (reply 500 (codes "other")) ≡ codes "Error 500: out of memory\n"
no_memory = refl

-- a challenge is there for 401 alone, and is stale where it says so
stale : challenge_fields 401 (Some (record { nonce = replicate 48 48; stale = true; digits = refl }))
    ≡ (
      codes "WWW-Authenticate",
      codes "Digest realm=\"FDSN\", qop=\"auth\", algorithm=MD5, nonce=\"000000000000000000000000000000000000000000000000\", stale=true",
    ) ∷ []
stale = refl

no_challenge : challenge_fields 403 (Some (record { nonce = replicate 48 48; stale = true; digits = refl })) ≡ []
no_challenge = refl

-- an Allow is there for 405 alone
both_methods : allow_fields 405 (Some allow.Both) ≡ (codes "Allow", codes "GET, POST") ∷ []
both_methods = refl

no_methods : allow_fields 404 (Some allow.Both) ≡ []
no_methods = refl

-- a status and its phrase
longest : status_line 431 ≡ codes "HTTP/1.1 431 Request Header Fields Too Large\r\n"
unfolding digits
longest = refl

-- the phrases of all statuses, in order
phrases : map phrase statuses
    ≡ codes "OK" ∷ codes "No Content" ∷ codes "Bad Request" ∷ codes "Unauthorized" ∷ codes "Forbidden" ∷ codes "Not Found" ∷ codes "Method Not Allowed"
    ∷ codes "Conflict" ∷ codes "Length Required" ∷ codes "Payload Too Large" ∷ codes "URI Too Long" ∷ codes "Request Header Fields Too Large"
    ∷ codes "Internal Server Error" ∷ codes "Service Unavailable" ∷ codes "Insufficient Storage" ∷ []
phrases = refl

-- another number is no status of a reply
teapot : is_status 418 ≡ false
teapot = refl
