use Rattle.archive_state.proofs.FoundingEntry.{founding_next}
use Rattle.archive_state.proofs.law.a_founding_entry_comes_first.Goals as goal

pub returns : goal.returns
returns c = founding_next
