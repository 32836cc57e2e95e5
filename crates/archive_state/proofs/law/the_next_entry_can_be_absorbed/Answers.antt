use Rattle.archive_state.proofs.NextEntry.{next_absorbs}
use Rattle.archive_state.proofs.law.the_next_entry_can_be_absorbed.Goals as goal

pub returns : goal.returns
returns c = next_absorbs
