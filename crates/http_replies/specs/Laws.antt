-- What a reader of HTTP/1 makes of a reply.
use Rattle.std.specs.Prelude.{◌≡◌, ℕ, ◌<◌, ◌^◌, List, ◌++◌, length, map}
use Rattle.httparse.specs.Grammar.{ResponseHead, ReadsResponse, reason_phrase, status_code}
use Rattle.httparse.specs.Spans.{name_and_value}
use Rattle.http_replies.specs.Replies.{phrase, reply_fields, reply_head, IsSendable}
use Rattle.http_replies.specs.declared.reply.Reply.{Reply}

-- the head of the grammar says what was meant: the status, its phrase, and the fields in order
pub record SaysReply (reply : Reply) (tree : ResponseHead) : Type 0 where
  pub minor : tree.minor ≡ 1
  pub status : status_code tree ≡ reply.status
  pub phrase_is : reason_phrase tree.reason ≡ phrase reply.status
  pub fields : map name_and_value tree.fields ≡ reply_fields reply

-- the numbers of a reply fit their types, as those of each value of the program do
pub record FitsTypes (reply : Reply) : Type 0 where
  pub front : reply.front < 2 ^ 64
  pub body : length reply.body < 2 ^ 64

-- Whatever follows the head of a reply, it reads as a head that says what was meant, up to its end.
abbrev pub EveryReplyReadsBack : Type 0
EveryReplyReadsBack = (reply : Reply) (rest : List ℕ) → IsSendable reply → FitsTypes reply
    → (tree : ResponseHead) × ReadsResponse (reply_head reply ++ rest) tree rest × SaysReply reply tree

-- And it reads as no other head, so no value can break it into two.
abbrev pub NoReplyReadsAsAnother : Type 0
NoReplyReadsAsAnother = (reply : Reply) (rest : List ℕ) → IsSendable reply → FitsTypes reply
    → (tree : ResponseHead) (behind : List ℕ) → ReadsResponse (reply_head reply ++ rest) tree behind → SaysReply reply tree × (behind ≡ rest)
