use Rattle.query_words.proofs.GetFound.{get_or_fault}
use Rattle.query_words.specs.DataGet.{IsDataGet, IsGetFault}
use Rattle.centre_desk.specs.Queries.{data_got}
use Rattle.centre_desk.proofs.Readers.{is_answer}
use Rattle.centre_desk.proofs.queries.data_got.Goals as goal

pub returns : goal.returns
unfolding data_got
returns c = is_answer (IsDataGet c.args.query.now) (IsGetFault c.args.query.now) (get_or_fault c.args.query.now) c.data_get.result c.data_get.ensures.exact
