use Rattle.std.proofs.Common.{◌≡◌, ◌∙◌, refl, sym, ap, subst, ℕ, true, false, None}
use Rattle.exact_time.specs.declared.moment.Moment.{Moment}
use Rattle.http_replies.specs.Replies.{reply_bytes}
use Rattle.http_replies.specs.declared.reply.Reply.{Reply}
use Rattle.http_wire.specs.declared.turn.Turn.{Turn}
use Rattle.streams.specs.Effects.{PutsAll}
use Rattle.centre_session.specs.Clocks.{Gave}
use Rattle.centre_session.specs.Items.{memory_reply}
use Rattle.centre_session.proofs.serving.run_out.Goals as goal

pub returns : goal.returns
returns g c =
    let turn = c.turn_without_entry.result in
    let is : turn ≡ record { front = c.front-front.result; moment = c.now-moment.result; entry = None; short = true } = c.turn_without_entry.ensures in
    let front = ap (λ (t : Turn). t.front) is in
    record {
      row = record {
        turn = turn;
        turns = c.push.ensures;
        short = ap (λ (t : Turn). t.short) is;
        no_entry = ap (λ (t : Turn). t.entry) is;
        front = front ∙ c.front-front.ensures;
        stand = refl;
        gave = subst (λ (m : Moment). Gave (g.C.Clock.given c.args.clock.now) (g.C.Clock.given c.now-moment.new.self) m) (sym (ap (λ (t : Turn). t.moment) is)) c.now-moment.ensures.told;
        puts = subst (λ (r : Reply). PutsAll (g.L.Stream.view c.args.link.now) (g.L.Stream.view c.write_reply.new.link) c.write_reply.result (reply_bytes r))
            (c.memory_reply-reply.ensures.reply ∙ ap (λ (n : ℕ). memory_reply n true false) (sym front))
            c.write_reply.ensures.written;
      };
    }
