use Rattle.dataselect.proofs.Fewer.{only_asked}
use Rattle.dataselect.proofs.law.rows_that_are_asked_for_decide.Goals as goal

pub returns : goal.returns
returns c = only_asked
