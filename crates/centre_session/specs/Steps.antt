-- What a session does with one item.
use Rattle.std.specs.Prelude.{◌≡◌, List, [], ◌∷◌, ◌++◌, length, true, false, None, Result, Ok, Err}
use Rattle.desk_words.specs.Setting.{Setting}
use Rattle.http_replies.specs.Replies.{reply_bytes}
use Rattle.http_replies.specs.declared.reply.Reply.{Reply}
use Rattle.http_replies.specs.declared.writing.LinkFault.{LinkFault as WriteFault}
use Rattle.http_wire.specs.declared.ending.ReadEnd.{ReadEnd}
use Rattle.http_wire.specs.declared.ending.ReadEnd.TheVariants as read
use Rattle.http_wire.specs.declared.turn.Turn.{Turn}
use Rattle.streams.specs.Effects.{PutsAll}
use Rattle.centre_session.specs.Clocks.{Gave}
use Rattle.centre_session.specs.Items.{Item, refused, memory_reply}
use Rattle.centre_session.specs.Session.{Scene}
use Rattle.centre_session.specs.Turns.{TurnStep}
use Rattle.centre_session.specs.declared.ending.SessionEnd.{SessionEnd}
use Rattle.centre_session.specs.declared.ending.SessionEnd.TheVariants.{Closed, Cut, LinkFault, Memory}

-- a reply closes the session, if it could be written
abbrev pub end_by : Result (Unit {0}) WriteFault → SessionEnd
end_by (Ok done) = Closed
end_by (Err fault) = LinkFault

-- an item had its turn at a moment that the clock gave, and its reply was written, or a first part of it
pub record ItemRow (before after : Scene) (s : Setting) (item : Item) (old new : List Turn) (result : Result (Unit {0}) WriteFault) : Type 0 where
  pub turn : Turn
  pub reply : Reply
  pub turns : new ≡ old ++ turn ∷ []
  pub step : TurnStep before.stand after.stand s item turn.moment turn reply
  pub gave : Gave before.given after.given turn.moment
  pub puts : PutsAll before.link after.link result (reply_bytes reply)

-- memory ran out while a request was read: a short turn, and its reply
pub record ShortRow (before after : Scene) (old new : List Turn) (result : Result (Unit {0}) WriteFault) : Type 0 where
  pub turn : Turn
  pub turns : new ≡ old ++ turn ∷ []
  pub short : turn.short ≡ true
  pub no_entry : turn.entry ≡ None
  pub front : turn.front ≡ length before.stand.seen
  pub stand : after.stand ≡ before.stand
  pub gave : Gave before.given after.given turn.moment
  pub puts : PutsAll before.link after.link result (reply_bytes (memory_reply turn.front true false))

-- what a session does where no request was read
abbrev pub EndRow : Scene → Scene → List Turn → List Turn → ReadEnd → SessionEnd → Type 0
EndRow before after old new read.End ending = (ending ≡ Closed) × (after ≡ before) × (new ≡ old)
EndRow before after old new read.Cut ending = (ending ≡ Cut) × (after ≡ before) × (new ≡ old)
EndRow before after old new read.LinkFault ending = (ending ≡ LinkFault) × (after ≡ before) × (new ≡ old)
EndRow before after old new read.OutOfMemory ending = (ending ≡ Memory) × ((result : Result (Unit {0}) WriteFault) × ShortRow before after old new result)
EndRow before after old new (read.Head f) ending =
    (result : Result (Unit {0}) WriteFault) × (ending ≡ end_by result) × ((s : Setting) → ItemRow before after s (refused f) old new result)
