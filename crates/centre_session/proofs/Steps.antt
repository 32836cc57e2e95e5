-- An item's turn.
use Rattle.std.proofs.Common.{◌≡◌, sym, subst, List, [], ◌∷◌, ◌++◌, Result}
use Rattle.exact_time.specs.declared.moment.Moment.{Moment}
use Rattle.desk_words.specs.Setting.{Setting}
use Rattle.http_replies.specs.Replies.{reply_bytes}
use Rattle.http_replies.specs.declared.reply.Reply.{Reply}
use Rattle.http_replies.specs.declared.writing.LinkFault.{LinkFault as WriteFault}
use Rattle.http_wire.specs.declared.turn.Turn.{Turn}
use Rattle.streams.specs.Effects.{PutsAll}
use Rattle.centre_session.specs.Clocks.{Gave}
use Rattle.centre_session.specs.Items.{Item}
use Rattle.centre_session.specs.Session.{Scene}
use Rattle.centre_session.specs.Steps.{ItemRow}
use Rattle.centre_session.specs.Turns.{TurnStep}

pub item_row : (x z : Scene) (s : Setting) (item : Item) (old new : List Turn) (result : Result (Unit {0}) WriteFault) (turn : Turn) (reply : Reply) (moment : Moment)
    → new ≡ old ++ turn ∷ [] → TurnStep x.stand z.stand s item moment turn reply → Gave x.given z.given moment → PutsAll x.link z.link result (reply_bytes reply)
    → ItemRow x z s item old new result
item_row x z s item old new result turn reply moment turns step gave puts = record {
  turn = turn;
  reply = reply;
  turns = turns;
  step = subst (λ (m : Moment). TurnStep x.stand z.stand s item m turn reply) (sym step.moment_is) step;
  gave = subst (λ (m : Moment). Gave x.given z.given m) (sym step.moment_is) gave;
  puts = puts;
}
