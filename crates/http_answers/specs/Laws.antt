-- What was written as a reply reads back.
use Rattle.std.specs.Prelude.{◌≡◌, ℕ, ◌<◌, ◌≤◌, ◌^◌, ◌==◌, false, if◌then◌else◌, List, ◌++◌, length, Option, None, Some, Err}
use Rattle.http_digest.specs.declared.challenges.Challenge.{Challenge}
use Rattle.http_replies.specs.Laws.{FitsTypes}
use Rattle.http_replies.specs.Replies.{reply_head, reply_bytes, body_of, IsSendable}
use Rattle.http_replies.specs.declared.reply.Reply.{Reply}
use Rattle.http_answers.specs.ReplyHeads.{Said}
use Rattle.http_answers.specs.Reading.{IsReply, NeverBegins, HasNoHead}
use Rattle.http_answers.specs.Hearing.{Answers}
use Rattle.http_answers.specs.declared.got.GotEnd.{GotEnd}

-- the nonce of a challenge, where one is written
abbrev pub nonce_asked : Option Challenge → Option (List ℕ)
nonce_asked None = None
nonce_asked (Some challenge) = Some challenge.nonce

abbrev pub nonce_written : Reply → Option (List ℕ)
nonce_written reply = if reply.status == 401 then nonce_asked reply.challenge else None

-- what is said of a reply that was written
abbrev pub meant : Reply → Said
meant reply = record {
  status = reply.status;
  front = Some reply.front;
  nonce = nonce_written reply;
  size = Some (length (body_of reply));
}

-- A reply that may be written to a client that reads it here: one that can be sent, and not for HEAD; its body has fewer than
-- 10^18 bytes, and a nonce 48 digits. That the head has 512 bytes at most is a clause of `write_reply`.
pub record WasWritten (reply : Reply) : Type 0 where
  pub sendable : IsSendable reply
  pub fits : FitsTypes reply
  pub head : length (reply_head reply) ≤ 512
  pub whole : reply.head_only ≡ false
  pub body : length (body_of reply) < 10 ^ 18
  pub nonce : (challenge : Challenge) → reply.challenge ≡ Some challenge → length challenge.nonce ≡ 48

-- Its bytes are this reply.
abbrev pub ReadsBack : Type 0
ReadsBack = (reply : Reply) → WasWritten reply → IsReply (reply_bytes reply) (meant reply) (body_of reply)

-- And bytes that begin with them begin with no other reply.
abbrev pub ReadsAsNoOther : Type 0
ReadsAsNoOther = (reply : Reply) (rest used behind : List ℕ) (says : Said) (body : List ℕ) → WasWritten reply
    → reply_bytes reply ++ rest ≡ used ++ behind → IsReply used says body → (says ≡ meant reply) × (body ≡ body_of reply) × (behind ≡ rest)

-- Nor are they refused, where the body has `most` bytes at most.
abbrev pub NeverRefused : Type 0
NeverRefused = (reply : Reply) (rest : List ℕ) (most : ℕ) (why : GotEnd) → WasWritten reply → length (body_of reply) ≤ most
    → Answers most (reply_bytes reply ++ rest) (Err why) → ⊥

-- Where no head within the limits begins the bytes, none does whatever follows.
abbrev pub NoneWhateverFollows : Type 0
NoneWhateverFollows = (bytes : List ℕ) → HasNoHead bytes → NeverBegins bytes
