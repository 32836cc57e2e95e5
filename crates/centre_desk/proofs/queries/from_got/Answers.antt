use Rattle.query_words.proofs.Numbers.{get_or_fault}
use Rattle.query_words.specs.NumberGet.{IsNumberGet, IsNumberGetFault, from}
use Rattle.centre_desk.specs.Queries.{from_got}
use Rattle.centre_desk.proofs.Readers.{is_answer}
use Rattle.centre_desk.proofs.queries.from_got.Goals as goal

pub returns : goal.returns
unfolding from_got
returns c = is_answer (IsNumberGet from c.args.query.now) (IsNumberGetFault from c.args.query.now) (get_or_fault from c.args.query.now) c.entries_get.result c.entries_get.ensures.exact
