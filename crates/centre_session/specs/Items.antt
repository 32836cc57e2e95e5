-- The items of a session, and what is written of them.
use Rattle.std.specs.Prelude.{◌≡◌, ◌⊎◌, ℕ, ◌+◌, ◌==◌, ◌||◌, Bool, true, false, MatchBool, List, [], ◌∷◌, ◌++◌, map, None, Ok, codes}
use Rattle.std.specs.Str.{bytes_eq}
use Rattle.http_replies.specs.Replies.{reply_bytes}
use Rattle.http_replies.specs.declared.reply.BodyKind.TheVariants.{Plain}
use Rattle.http_replies.specs.declared.reply.Reply.{Reply}
use Rattle.http_wire.specs.FieldPairs.{as_pair}
use Rattle.http_wire.specs.Fronts.{front_limit, IsFront}
use Rattle.http_wire.specs.Heads.{HeadView, FrontSays, closes, interim_of}
use Rattle.http_wire.specs.Items.{IsRequest, EndsAtFront, EndsInBody, body_limit, request_limit}
use Rattle.http_wire.specs.declared.block.BlockEnd.{BlockEnd}
use Rattle.http_wire.specs.declared.ending.HeadFault.{HeadFault}
use Rattle.http_wire.specs.declared.ending.StreamEnd.TheVariants as end
use Rattle.http_wire.specs.declared.request.Request.{Request}

-- what a session replies to: a whole request with what its head says, or a head that is refused
pub data Item : Type 0 where
  asked : HeadView → Request → Item
  refused : HeadFault → Item

-- how the items of a session end: behind one that closes, with the input between requests, or with it inside a request
pub data Ending : Type 0 where
  closing : Ending
  over : Ending
  cut : Ending

-- behind so many items the request says what this head says; it closes where the head says so, and as the last one that a
-- session may have
pub record Says (before : ℕ) (head : HeadView) (r : Request) : Type 0 where
  pub method_is : r.method ≡ head.method
  pub target_is : r.target ≡ head.target
  pub fields_are : map as_pair r.headers ≡ head.fields
  pub close_is : r.close ≡ (closes head || before + 1 == request_limit)

-- how a stream ends that has no item more, and what is written of that: the interim reply that a request asks for whose
-- body is cut, and else nothing
abbrev pub EndsSo : List ℕ → List ℕ → Ending → Type 0
EndsSo bytes interim closing = ⊥
EndsSo bytes interim over = (interim ≡ []) × EndsAtFront front_limit body_limit bytes end.End
EndsSo bytes interim cut =
    ((interim ≡ []) × EndsAtFront front_limit body_limit bytes end.Cut) ⊎ ((inside : EndsInBody front_limit body_limit bytes) × (interim ≡ interim_of inside.head))

-- Behind so many items, the bytes are these items, and end so: a request, and what is behind it unless it closes; a head
-- that is refused, which closes; or the input's end.
abbrev pub AreItems : ℕ → List ℕ → List Item → List ℕ → Ending → Type 0
AreItems before bytes [] interim ending = EndsSo bytes interim ending
AreItems before bytes (refused f ∷ items) interim ending =
    (items ≡ []) × (ending ≡ closing) × (interim ≡ []) × EndsAtFront front_limit body_limit bytes (end.Head f)
AreItems before bytes (asked head r ∷ items) interim ending =
    (used : List ℕ) × (rest : List ℕ) × (bytes ≡ used ++ rest) × IsRequest front_limit body_limit used head r.body × Says before head r
    × MatchBool r.close ((items ≡ []) × (ending ≡ closing) × (interim ≡ [])) (AreItems (before + 1) rest items interim ending)

-- behind so many items, these are the first ones of the bytes, and those bytes are behind them
abbrev pub AreFirst : ℕ → List ℕ → List Item → List ℕ → Type 0
AreFirst before bytes [] behind = bytes ≡ behind
AreFirst before bytes (refused f ∷ items) behind = (items ≡ []) × (behind ≡ []) × EndsAtFront front_limit body_limit bytes (end.Head f)
AreFirst before bytes (asked head r ∷ items) behind =
    (used : List ℕ) × (rest : List ℕ) × (bytes ≡ used ++ rest) × IsRequest front_limit body_limit used head r.body × Says before head r
    × MatchBool r.close ((items ≡ []) × (rest ≡ behind)) (AreFirst (before + 1) rest items behind)

-- the bytes begin with a request's head
pub record BeginsHead (bytes : List ℕ) : Type 0 where
  pub kind : BlockEnd
  pub front : List ℕ
  pub rest : List ℕ
  pub head : HeadView
  pub is_front : IsFront front_limit bytes kind front rest
  pub says : FrontSays body_limit front kind (Ok head)

-- what was to be written of a request that wasn't read whole: nothing, or the interim reply that its head asks for
abbrev pub IsInterim : List ℕ → List ℕ → Type 0
IsInterim bytes interim = (interim ≡ []) ⊎ ((begins : BeginsHead bytes) × (interim ≡ interim_of begins.head))

-- behind so many items, the bytes are these whole requests, none of which closes
abbrev pub AreOpen : ℕ → List ℕ → List Item → Type 0
AreOpen before bytes [] = bytes ≡ []
AreOpen before bytes (refused f ∷ items) = ⊥
AreOpen before bytes (asked head r ∷ items) =
    (used : List ℕ) × (rest : List ℕ) × (bytes ≡ used ++ rest) × IsRequest front_limit body_limit used head r.body × Says before head r
    × (r.close ≡ false) × AreOpen (before + 1) rest items

-- what is written of an item before its reply: the interim reply that it asks for
abbrev pub interim_before : Item → List ℕ
interim_before (asked head r) = interim_of head
interim_before (refused f) = []

-- what is written of an item: that, and its reply
abbrev pub item_output : Item → Reply → List ℕ
item_output item reply = interim_before item ++ reply_bytes reply

-- what is written of items, as far as they have replies
abbrev pub output_of : List Item → List Reply → List ℕ
output_of (item ∷ items) (reply ∷ replies) = item_output item reply ++ output_of items replies
output_of _ _ = []

-- the reply where memory ran out
abbrev pub memory_reply : ℕ → (close head_only : Bool) → Reply
memory_reply front close head_only = record {
  status = 500;
  kind = Plain;
  challenge = None;
  allow = None;
  front = front;
  body = [];
  close = close;
  head_only = head_only;
}

abbrev pub short_reply : ℕ → Item → Reply
short_reply front (asked head r) = memory_reply front r.close (bytes_eq r.method (codes "HEAD"))
short_reply front (refused f) = memory_reply front true false
