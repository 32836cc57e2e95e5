use Rattle.centre_desk.proofs.Laws.{told_is, stays_all}
use Rattle.centre_desk.proofs.law.a_repeated_command_acts_once.Goals as goal

pub returns-clause-told : goal.returns-clause-told
returns-clause-told c s h n e x lawful at some again = told_is s h n e lawful at some x again

pub returns-clause-adds : goal.returns-clause-adds
returns-clause-adds c = stays_all
