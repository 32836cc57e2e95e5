use Rattle.archive_state.proofs.Accepts.{accept_number}
use Rattle.archive_state.proofs.law.an_accepted_command_gets_the_next_number.Goals as goal

pub returns : goal.returns
returns c = accept_number
