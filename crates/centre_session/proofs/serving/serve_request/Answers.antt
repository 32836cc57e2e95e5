use Rattle.desk_words.specs.Setting.{setting}
use Rattle.centre_session.specs.Items.{asked}
use Rattle.centre_session.specs.Session.{scene}
use Rattle.centre_session.proofs.Steps.{item_row}
use Rattle.centre_session.proofs.serving.serve_request.Goals as goal

pub returns : goal.returns
returns g c = record {
  row = λ head.
      item_row (scene (g.K.Desk.stand c.args.desk.now) (g.L.Stream.view c.args.link.now) (g.C.Clock.given c.args.clock.now))
      (scene (g.K.Desk.stand c.request_turn-reply.new.desk) (g.L.Stream.view c.write_reply.new.link) (g.C.Clock.given c.now-moment.new.self))
      (setting c.args.secret.now c.args.limits.now) (asked head c.args.request.now) c.args.trail.now c.push.new.self c.write_reply.result
      c.request_turn-reply.result.1 c.request_turn-reply.result.0 c.now-moment.result
      c.push.ensures (c.request_turn-reply.ensures.step head) c.now-moment.ensures.told c.write_reply.ensures.written;
}
