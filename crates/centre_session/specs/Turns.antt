-- The turns of a session, one for each item.
use Rattle.std.specs.Prelude.{◌≡◌, ◌⊎◌, ℕ, ◌+◌, ◌≤◌, ◌==◌, true, false, List, [], ◌∷◌, length, take, ⊤, None, is_some}
use Rattle.std.specs.List.{sum_by}
use Rattle.exact_time.specs.declared.moment.Moment.{Moment}
use Rattle.archive_entry.specs.declared.entry.Entry.{Entry}
use Rattle.desk_words.specs.Counts.{RoseWithin, RoseAtLeast}
use Rattle.desk_words.specs.Setting.{Setting}
use Rattle.desk_words.specs.Stand.{Stand, GoesOn, nothing}
use Rattle.http_replies.specs.declared.reply.Reply.{Reply}
use Rattle.http_wire.specs.declared.turn.Turn.{Turn}
use Rattle.centre_desk.specs.Sources.{AloneTurn}
use Rattle.centre_desk.specs.Told.{head_reply}
use Rattle.centre_desk.specs.Turns.{IsWhole, IsStopped, added_by, as_count, behind_of}
use Rattle.centre_session.specs.Items.{Item, asked, refused, short_reply}
use Rattle.centre_session.specs.Sources.{posted_in, SourcedSession}

-- memory ran out: the reply is the fixed one, and no entry is told
pub record IsShort (h : List Entry) (item : Item) (t : Turn) (reply : Reply) : Type 0 where
  pub short : t.short ≡ true
  pub no_entry : t.entry ≡ None
  pub reply_is : reply ≡ short_reply (length h) item

-- what became of an item, over the history of its turn: its reply is that of the definition, or tells that a disk stopped
-- its command, or that memory ran out
abbrev pub ServedAs : List Entry → Setting → Item → Turn → Reply → Type 0
ServedAs h s (asked head r) t reply =
    ((t.short ≡ false) × (IsWhole h r s t reply ⊎ IsStopped h r s t reply)) ⊎ IsShort h (asked head r) t reply
ServedAs h s (refused f) t reply = ((t.short ≡ false) × (t.entry ≡ None) × (reply ≡ head_reply f (length h))) ⊎ IsShort h (refused f) t reply

-- the turn of an item, from the front k on: fronts never fall, and the entry that a turn adds is past those before
pub record Served (h : List Entry) (k : ℕ) (s : Setting) (item : Item) (t : Turn) (reply : Reply) : Type 0 where
  pub rises : k + added_by t.entry ≤ t.front
  pub within : t.front ≤ length h
  pub served : ServedAs (take t.front h) s item t reply

-- Each item has its turn and its reply over one history, from the front k on.
abbrev pub IsSession : List Entry → ℕ → Setting → List Item → List Turn → List Reply → Type 0
IsSession h k s [] [] [] = ⊤
IsSession h k s (i ∷ items) (t ∷ turns) (reply ∷ replies) = Served h k s i t reply × IsSession h t.front s items turns replies
IsSession h k s [] [] (reply ∷ replies) = ⊥
IsSession h k s [] (t ∷ turns) replies = ⊥
IsSession h k s (i ∷ items) [] replies = ⊥
IsSession h k s (i ∷ items) (t ∷ turns) [] = ⊥

-- the front after turns that begin at k
abbrev pub last_front : ℕ → List Turn → ℕ
last_front k [] = k
last_front k (t ∷ turns) = last_front t.front turns

-- the reply tells that a disk stopped a command
abbrev pub stops_of : Reply → ℕ
stops_of reply = as_count (reply.status == 503)

abbrev pub made_least : Turn → ℕ
made_least t = added_by t.entry

abbrev pub made_most : Turn → ℕ
made_most t = added_by t.entry + as_count t.short

-- what a turn does to the counts of a desk
pub record Counted (old new : Stand) (t : Turn) (reply : Reply) : Type 0 where
  pub stops : RoseAtLeast (stops_of reply) old.stops new.stops
  pub caught : RoseAtLeast (behind_of reply) old.caught new.caught
  pub made : RoseWithin (made_least t) (made_most t) old.made new.made

-- one turn; its front is that of what is seen after it
pub record TurnStep (old new : Stand) (s : Setting) (item : Item) (moment : Moment) (t : Turn) (reply : Reply) : Type 0 where
  pub goes_on : GoesOn old new
  pub moment_is : t.moment ≡ moment
  pub front : t.front ≡ length new.seen
  pub served : Served new.seen (length old.seen) s item t reply
  pub counted : Counted old new t reply
  pub alone : old.alone ≡ true → AloneTurn old new (posted_in item) t.moment s (is_some t.entry) t.short (reply.status == 503)

-- The items were served over one history, which is what is seen after them. So many commands were stopped, so often the
-- desk caught up, and so many entries were made, at least or at most. Where nobody else lengthens what is seen, and nothing
-- was left before, the turns are the sources of all that was added.
pub record Serves (old new : Stand) (s : Setting) (items : List Item) (turns : List Turn) (replies : List Reply) : Type 0 where
  pub goes_on : GoesOn old new
  pub session : IsSession new.seen (length old.seen) s items turns replies
  pub stops : RoseAtLeast (sum_by stops_of replies) old.stops new.stops
  pub caught : RoseAtLeast (sum_by behind_of replies) old.caught new.caught
  pub made : RoseWithin (sum_by made_least turns) (sum_by made_most turns) old.made new.made
  pub alone : old.alone ≡ true → old.left ≡ nothing → SourcedSession old new s items turns replies
