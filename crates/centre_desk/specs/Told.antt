-- What a request is told, and the reply that tells it.
use Rattle.std.specs.Prelude.{ℕ, Bool, true, false, List, [], Option, None, Some, unwrap_or, codes}
use Rattle.std.specs.Str.{bytes_eq}
use Rattle.exact_time.specs.declared.moment.Moment.{Moment}
use Rattle.access_digest.specs.declared.denial.Denial.{Denial}
use Rattle.access_digest.specs.declared.denial.Denial.TheVariants as denial
use Rattle.http_digest.proofs.Hexadecimal.{nonce_digits}
use Rattle.http_digest.specs.Nonces.{nonce_of, second_of}
use Rattle.http_digest.specs.declared.challenges.Challenge.{Challenge}
use Rattle.http_digest.specs.declared.secret.Secret.{Secret}
use Rattle.http_replies.specs.declared.reply.Allow.{Allow}
use Rattle.http_replies.specs.declared.reply.BodyKind.{BodyKind}
use Rattle.http_replies.specs.declared.reply.BodyKind.TheVariants.{Plain}
use Rattle.http_replies.specs.declared.reply.Reply.{Reply}
use Rattle.http_wire.specs.declared.ending.HeadFault.{HeadFault}
use Rattle.http_wire.specs.declared.request.Request.{Request}
use Rattle.centre_desk.specs.Faults.{head_status, status_of, fault_body}
use Rattle.centre_desk.specs.declared.fault.Fault.{Fault}
use Rattle.centre_desk.specs.declared.fault.Fault.TheVariants as fault
use Rattle.centre_desk.specs.declared.told.Told.{Told}
use Rattle.centre_desk.specs.declared.told.Told.TheVariants.{Body, Nothing, Refused}

-- what a client is asked at a moment: a nonce of its second
abbrev pub challenge_at : Moment → Secret → Bool → Challenge
challenge_at moment secret stale = record {
  nonce = nonce_of secret (unwrap_or (second_of moment.micros) 0);
  stale = stale;
  digits = nonce_digits secret (unwrap_or (second_of moment.micros) 0);
}

abbrev pub challenge_for_denial : Denial → Moment → Secret → Option Challenge
challenge_for_denial denial.Absent moment secret = Some (challenge_at moment secret false)
challenge_for_denial denial.Unreadable moment secret = Some (challenge_at moment secret false)
challenge_for_denial denial.Stale moment secret = Some (challenge_at moment secret true)
challenge_for_denial denial.UnknownUser moment secret = None
challenge_for_denial denial.WrongResponse moment secret = None

-- how to ask again with credentials, where the credentials weren't read or their nonce is old
abbrev pub challenge_for : Fault → Moment → Secret → Option Challenge
challenge_for (fault.Denied d) moment secret = challenge_for_denial d moment secret
challenge_for _ moment secret = None

-- the methods of the path, where it hasn't that of the request
abbrev pub allow_for : Fault → Option Allow
allow_for (fault.NoMethod methods) = Some methods
allow_for _ = None

-- the status of a reply
abbrev pub status_told : Told → ℕ
status_told (Body kind bytes) = 200
status_told Nothing = 204
status_told (Refused f) = status_of f

abbrev pub kind_told : Told → BodyKind
kind_told (Body kind bytes) = kind
kind_told Nothing = Plain
kind_told (Refused f) = Plain

abbrev pub body_told : Told → List ℕ
body_told (Body kind bytes) = bytes
body_told Nothing = []
body_told (Refused f) = fault_body f

abbrev pub challenge_told : Told → Moment → Secret → Option Challenge
challenge_told (Refused f) moment secret = challenge_for f moment secret
challenge_told _ moment secret = None

abbrev pub allow_told : Told → Option Allow
allow_told (Refused f) = allow_for f
allow_told _ = None

-- the reply that tells it to a request, over so many entries
abbrev pub reply_from : Told → ℕ → Request → Moment → Secret → Reply
reply_from told front r moment secret = record {
  status = status_told told;
  kind = kind_told told;
  challenge = challenge_told told moment secret;
  allow = allow_told told;
  front = front;
  body = body_told told;
  close = r.close;
  head_only = bytes_eq r.method (codes "HEAD");
}

-- the reply that a request is refused for its head, over so many entries: it closes, and has its body in any case
abbrev pub head_reply : HeadFault → ℕ → Reply
head_reply f front = record {
  status = head_status f;
  kind = Plain;
  challenge = None;
  allow = None;
  front = front;
  body = fault_body (fault.Head f);
  close = true;
  head_only = false;
}
