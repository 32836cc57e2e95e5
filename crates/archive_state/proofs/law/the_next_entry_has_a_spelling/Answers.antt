use Rattle.archive_state.specs.Verdicts.{entry_of}
use Rattle.archive_state.proofs.NextEntry.{next_is_entry}
use Rattle.archive_state.proofs.Sendings.{accepted_is_next}
use Rattle.archive_state.proofs.law.the_next_entry_has_a_spelling.Goals as goal

pub returns-clause-next : goal.returns-clause-next
returns-clause-next c = next_is_entry

pub returns-clause-accepted : goal.returns-clause-accepted
returns-clause-accepted c = λ h limits s lawful fit is. next_is_entry h (entry_of h s.command s.moment) lawful (accepted_is_next h limits s fit is)
