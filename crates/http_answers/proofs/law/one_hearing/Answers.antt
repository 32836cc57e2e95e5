use Rattle.http_answers.proofs.OneReply.{one_heard, reply_heard, end_heard}
use Rattle.http_answers.proofs.law.one_hearing.Goals as goal

pub returns-clause-one : goal.returns-clause-one
returns-clause-one c = one_heard

pub returns-clause-reply : goal.returns-clause-reply
returns-clause-reply c = reply_heard

pub returns-clause-end : goal.returns-clause-end
returns-clause-end c = end_heard
