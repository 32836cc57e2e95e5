-- A session over a link.
use Rattle.std.specs.Prelude.{◌≡◌, ◌⊎◌, ℕ, ◌≤◌, true, false, List, [], ◌∷◌, ◌++◌, length, map, ⊤, Option, None}
use Rattle.std.specs.Io.KnownBytes.{Consumes, IsAtEnd}
use Rattle.exact_time.specs.Causes.{Rose}
use Rattle.exact_time.specs.declared.moment.Moment.{Moment}
use Rattle.desk_words.specs.Setting.{Setting}
use Rattle.desk_words.specs.Stand.{Stand}
use Rattle.http_replies.specs.declared.reply.Reply.{Reply}
use Rattle.http_replies.specs.Replies.{reply_bytes}
use Rattle.http_wire.specs.declared.turn.Turn.{Turn}
use Rattle.streams.specs.Effects.{Grew}
use Rattle.streams.specs.View.{StreamView}
use Rattle.centre_session.specs.Clocks.{GaveAll}
use Rattle.centre_session.specs.Items.{Item, Ending, closing, over, cut, AreItems, AreFirst, AreOpen, IsInterim, interim_before, output_of, memory_reply}
use Rattle.centre_session.specs.Turns.{Serves}
use Rattle.centre_session.specs.declared.ending.SessionEnd.{SessionEnd}
use Rattle.centre_session.specs.declared.ending.SessionEnd.TheVariants.{Closed, Cut, LinkFault, Memory}

-- what is known at one moment: of the desk, of the link, and which moments the clock gave
pub record Scene : Type 0 where
  pub stand : Stand
  pub link : StreamView
  pub given : Option (List Moment)

abbrev pub scene : Stand → StreamView → Option (List Moment) → Scene
scene stand link given = record { stand = stand; link = link; given = given }

abbrev pub moments_of : List Turn → List Moment
moments_of turns = map (λ t. t.moment) turns

-- These items, which had these turns and these replies, in order, over one history, are the first ones of what was taken
-- from the link up to one moment; those bytes are behind them.
pub record Session (before after : Scene) (s : Setting) (items : List Item) (turns : List Turn) (replies : List Reply) (behind : List ℕ) : Type 0 where
  pub taken : List ℕ
  pub then_left : Option (List ℕ)
  pub lost : Consumes before.link.left then_left taken
  pub first : AreFirst 0 taken items behind
  pub serves : Serves before.stand after.stand s items turns replies
  pub later : before.link.faults ≤ after.link.faults

-- nothing is left in the link where the input's end ended the session
abbrev pub IsSpent : Scene → Ending → Type 0
IsSpent after closing = ⊤
IsSpent after over = IsAtEnd after.link.left
IsSpent after cut = IsAtEnd after.link.left

-- A session that ended so: all its items were served, and all of their output was written.
pub record Ended (before after : Scene) (s : Setting) (turns : List Turn) (ending : Ending) : Type 0 where
  pub items : List Item
  pub replies : List Reply
  pub taken : List ℕ
  pub lost : Consumes before.link.left after.link.left taken
  pub interim : List ℕ
  pub all : AreItems 0 taken items interim ending
  pub spent : IsSpent after ending
  pub serves : Serves before.stand after.stand s items turns replies
  pub later : before.link.faults ≤ after.link.faults
  pub moments : GaveAll before.given after.given (moments_of turns)
  pub wrote : Grew before.link.written after.link.written (output_of items replies ++ interim)

-- these items are whole requests, none of which closes, and the bytes of all that was taken but what is behind them
pub record NoneCloses (taken behind : List ℕ) (items : List Item) : Type 0 where
  pub used : List ℕ
  pub split : taken ≡ used ++ behind
  pub open_are : AreOpen 0 used items

-- The link failed while a request was read, or while the interim reply that it asks for was written. No request before it
-- closes, and all of their output is whole.
pub record BrokeReading (before after : StreamView) (taken behind : List ℕ) (items : List Item) (replies : List Reply) : Type 0 where
  pub none_closes : NoneCloses taken behind items
  pub interim : List ℕ
  pub interim_is : IsInterim behind interim
  pub part : List ℕ
  pub rest : List ℕ
  pub split : interim ≡ part ++ rest
  pub wrote : Grew before.written after.written (output_of items replies ++ part)

-- It failed while the last reply was written: all that is written before that reply is whole.
pub record BrokeReplying (before after : StreamView) (items : List Item) (replies : List Reply) : Type 0 where
  pub others : List Item
  pub item : Item
  pub items_are : items ≡ others ++ item ∷ []
  pub earlier : List Reply
  pub reply : Reply
  pub replies_are : replies ≡ earlier ++ reply ∷ []
  pub part : List ℕ
  pub rest : List ℕ
  pub split : reply_bytes reply ≡ part ++ rest
  pub wrote : Grew before.written after.written (output_of others earlier ++ interim_before item ++ part)

-- a session that a fault of the link stopped
pub record Broken (before after : Scene) (s : Setting) (turns : List Turn) : Type 0 where
  pub items : List Item
  pub replies : List Reply
  pub behind : List ℕ
  pub session : Session before after s items turns replies behind
  pub moments : GaveAll before.given after.given (moments_of turns)
  pub rose : Rose before.link.faults after.link.faults
  pub broke : BrokeReading before.link after.link session.taken behind items replies ⊎ BrokeReplying before.link after.link items replies

-- the link failed when some bytes were written, and behind them a first part of the last ones
pub record CutsLast (before after : StreamView) (front last : List ℕ) : Type 0 where
  pub rose : Rose before.faults after.faults
  pub part : List ℕ
  pub rest : List ℕ
  pub split : last ≡ part ++ rest
  pub output : Grew before.written after.written (front ++ part)

-- these bytes were written, and behind them the last ones, or a first part of the last ones where the link failed
abbrev pub WritesLast : StreamView → StreamView → List ℕ → List ℕ → Type 0
WritesLast before after front last = Grew before.written after.written (front ++ last) ⊎ CutsLast before after front last

-- A session in which memory ran out while a request was read: one short turn more, and a reply of 500 that closes, or a
-- first part of it where the link failed. No request before it closes, and all of their output is whole.
pub record RanOut (before after : Scene) (s : Setting) (turns : List Turn) : Type 0 where
  pub items : List Item
  pub replies : List Reply
  pub done : List Turn
  pub last : Turn
  pub turns_are : turns ≡ done ++ last ∷ []
  pub behind : List ℕ
  pub session : Session before after s items done replies behind
  pub none_closes : NoneCloses session.taken behind items
  pub short : last.short ≡ true
  pub no_entry : last.entry ≡ None
  pub front : last.front ≡ length after.stand.seen
  pub moments : GaveAll before.given after.given (moments_of turns)
  pub interim : List ℕ
  pub interim_is : IsInterim behind interim
  pub wrote : WritesLast before.link after.link (output_of items replies ++ interim) (reply_bytes (memory_reply last.front true false))

abbrev pub SessionRow : Scene → Scene → Setting → List Turn → SessionEnd → Type 0
SessionRow before after s turns Closed = Ended before after s turns closing ⊎ Ended before after s turns over
SessionRow before after s turns Cut = Ended before after s turns cut
SessionRow before after s turns LinkFault = Broken before after s turns
SessionRow before after s turns Memory = RanOut before after s turns

-- a turn for which memory ran out while its request was read
pub record IsLastShort (after : Stand) (t : Turn) : Type 0 where
  pub short : t.short ≡ true
  pub no_entry : t.entry ≡ None
  pub front : t.front ≡ length after.seen

-- no turn, or that one
abbrev pub AreMore : Stand → List Turn → Type 0
AreMore after [] = ⊤
AreMore after (t ∷ []) = IsLastShort after t
AreMore after (t ∷ u ∷ turns) = ⊥

-- What every session says, whatever its end: its items had these turns and these replies, and one short turn more stands
-- behind them where memory ran out while a request was read.
pub record SessionSays (before after : Scene) (s : Setting) (turns : List Turn) : Type 0 where
  pub items : List Item
  pub replies : List Reply
  pub done : List Turn
  pub more : List Turn
  pub turns_are : turns ≡ done ++ more
  pub serves : Serves before.stand after.stand s items done replies
  pub are_more : AreMore after.stand more
  pub later : before.link.faults ≤ after.link.faults
  pub moments : GaveAll before.given after.given (moments_of turns)
