use Rattle.desk_words.specs.Setting.{setting}
use Rattle.centre_desk.proofs.Replied.{behind_said}
use Rattle.centre_desk.proofs.replying.reply.Goals as goal

pub returns-clause-behind : goal.returns-clause-behind
returns-clause-behind g c =
    behind_said (g.K.Desk.stand c.args.desk.now) (g.K.Desk.stand c.said.new.desk) c.args.request.now c.args.moment (setting c.args.secret.now c.args.limits.now) c.in_ok-said.said c.in_ok-reply.reply
    c.in_ok-said.ensures.says.goes_on c.in_ok-said.ensures.says.row c.in_ok-said.ensures.caught c.said.ensures.later c.in_ok-reply.ensures.reply
