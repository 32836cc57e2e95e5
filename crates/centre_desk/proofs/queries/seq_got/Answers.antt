use Rattle.query_words.proofs.Numbers.{get_or_fault}
use Rattle.query_words.specs.NumberGet.{IsNumberGet, IsNumberGetFault, seq}
use Rattle.centre_desk.specs.Queries.{seq_got}
use Rattle.centre_desk.proofs.Readers.{is_answer, bounded}
use Rattle.centre_desk.proofs.queries.seq_got.Goals as goal

pub returns-clause-answer : goal.returns-clause-answer
unfolding seq_got
returns-clause-answer c = is_answer (IsNumberGet seq c.args.query.now) (IsNumberGetFault seq c.args.query.now) (get_or_fault seq c.args.query.now) c.feed_get.result c.feed_get.ensures.exact

pub returns-clause-bound : goal.returns-clause-bound
returns-clause-bound c = bounded c.args.query.now c.feed_get.result c.feed_get.ensures.number
