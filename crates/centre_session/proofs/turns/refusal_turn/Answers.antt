use Rattle.centre_session.proofs.Refusals.{refused_step, short_step}
use Rattle.centre_session.proofs.turns.refusal_turn.Goals as goal

pub returns-in-Ok-clause-step : goal.returns-in-Ok-clause-step
returns-in-Ok-clause-step g c s =
    refused_step (g.K.Desk.stand c.args.desk.now) s c.args.fault c.args.moment c.front-front.result c.turn_without_entry.result c.in-Ok.reply c.front-front.ensures c.turn_without_entry.ensures c.in-Ok.ensures.reply

pub returns-in-Err-clause-step : goal.returns-in-Err-clause-step
returns-in-Err-clause-step g c s =
    short_step (g.K.Desk.stand c.args.desk.now) s c.args.fault c.args.moment c.front-front.result c.turn_without_entry-in-Err.result c.memory_reply-reply.result c.front-front.ensures c.turn_without_entry-in-Err.ensures
    c.memory_reply-reply.ensures.reply
