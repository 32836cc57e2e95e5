use Rattle.centre_session.proofs.EveryItem.{some_list}
use Rattle.centre_session.proofs.OneList.{one_list}
use Rattle.centre_session.proofs.law.a_stream_has_one_list_of_items.Goals as goal

pub returns-clause-one : goal.returns-clause-one
returns-clause-one c = one_list 0

pub returns-clause-some : goal.returns-clause-some
returns-clause-some c = some_list
