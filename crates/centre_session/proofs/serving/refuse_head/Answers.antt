use Rattle.centre_session.specs.Items.{refused}
use Rattle.centre_session.specs.Session.{scene}
use Rattle.centre_session.proofs.Steps.{item_row}
use Rattle.centre_session.proofs.serving.refuse_head.Goals as goal

pub returns : goal.returns
returns g c = record {
  row = λ s.
      item_row (scene (g.K.Desk.stand c.args.desk.now) (g.L.Stream.view c.args.link.now) (g.C.Clock.given c.args.clock.now))
      (scene (g.K.Desk.stand c.refusal_turn-reply.new.desk) (g.L.Stream.view c.write_reply.new.link) (g.C.Clock.given c.now-moment.new.self))
      s (refused c.args.fault) c.args.trail.now c.push.new.self c.write_reply.result
      c.refusal_turn-reply.result.1 c.refusal_turn-reply.result.0 c.now-moment.result
      c.push.ensures (c.refusal_turn-reply.ensures.step s) c.now-moment.ensures.told c.write_reply.ensures.written;
}
