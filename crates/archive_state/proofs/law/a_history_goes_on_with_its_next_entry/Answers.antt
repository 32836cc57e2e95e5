use Rattle.archive_state.proofs.Growth.{lawful_more, lawful_by_each}
use Rattle.archive_state.proofs.law.a_history_goes_on_with_its_next_entry.Goals as goal

pub returns-clause-more : goal.returns-clause-more
returns-clause-more c = lawful_more

pub returns-clause-each : goal.returns-clause-each
returns-clause-each c = lawful_by_each
