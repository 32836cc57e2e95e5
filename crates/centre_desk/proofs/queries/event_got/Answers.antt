use Rattle.query_words.proofs.EventFound.{get_or_fault}
use Rattle.query_words.specs.EventGet.{IsEventGet, IsEventGetFault}
use Rattle.centre_desk.specs.Queries.{event_got}
use Rattle.centre_desk.proofs.Readers.{is_answer}
use Rattle.centre_desk.proofs.queries.event_got.Goals as goal

pub returns : goal.returns
unfolding event_got
returns c = is_answer (IsEventGet c.args.query.now) (IsEventGetFault c.args.query.now) (get_or_fault c.args.query.now) c.event_get.result c.event_get.ensures.exact
