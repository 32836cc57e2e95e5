use Rattle.streams.proofs.GoingOn.{takes_go_on, puts_go_on, go_on_together}
use Rattle.streams.proofs.law.what_is_told_goes_on.Goals as goal

pub returns-clause-takes : goal.returns-clause-takes
returns-clause-takes c = takes_go_on

pub returns-clause-puts : goal.returns-clause-puts
returns-clause-puts c = puts_go_on

pub returns-clause-together : goal.returns-clause-together
returns-clause-together c = go_on_together
