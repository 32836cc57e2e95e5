use Rattle.query_words.proofs.AvailFound.{get_or_fault}
use Rattle.query_words.specs.AvailGet.{IsAvailGet, IsAvailGetFault}
use Rattle.centre_desk.specs.Queries.{avail_got}
use Rattle.centre_desk.proofs.Readers.{is_answer}
use Rattle.centre_desk.proofs.queries.avail_got.Goals as goal

pub returns : goal.returns
unfolding avail_got
returns c = is_answer (IsAvailGet c.args.method c.args.query.now) (IsAvailGetFault c.args.method c.args.query.now) (get_or_fault c.args.method c.args.query.now) c.avail_get.result c.avail_get.ensures.exact
