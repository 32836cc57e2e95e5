use Rattle.std.proofs.Common.{ap}
use Rattle.archive_state.specs.History.{roles_in}
use Rattle.archive_state.proofs.judging.roles_of.Goals as goal

pub returns-in-Some : goal.returns-in-Some
returns-in-Some c = ap roles_in c.in-Some.ensures.user

pub returns-in-None : goal.returns-in-None
returns-in-None c = ap roles_in c.in-None.ensures.user
