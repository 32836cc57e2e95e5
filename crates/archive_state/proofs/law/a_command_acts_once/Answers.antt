use Rattle.archive_state.proofs.Once.{repeated}
use Rattle.archive_state.proofs.Sendings.{known_verdict, one_place}
use Rattle.archive_state.proofs.law.a_command_acts_once.Goals as goal

pub returns-clause-again : goal.returns-clause-again
returns-clause-again c = repeated

pub returns-clause-known : goal.returns-clause-known
returns-clause-known c = known_verdict

pub returns-clause-once : goal.returns-clause-once
returns-clause-once c = one_place
