use Rattle.archive_state.proofs.HeldRows.{held_among, all_held}
use Rattle.archive_state.proofs.law.held_rows_have_arrived.Goals as goal

pub returns-clause-order : goal.returns-clause-order
returns-clause-order c = held_among

pub returns-clause-all : goal.returns-clause-all
returns-clause-all c = λ h none. all_held h none
