use Rattle.archive_state.proofs.Sendings.{all_lawful, all_begin}
use Rattle.archive_state.proofs.law.commands_keep_a_history_lawful.Goals as goal

pub returns-clause-lawful : goal.returns-clause-lawful
returns-clause-lawful c = all_lawful

pub returns-clause-begins : goal.returns-clause-begins
returns-clause-begins c = all_begin
