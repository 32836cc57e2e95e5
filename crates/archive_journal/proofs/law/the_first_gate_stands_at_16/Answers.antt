use Rattle.archive_journal.proofs.Entries.{first_gate}
use Rattle.archive_journal.proofs.law.the_first_gate_stands_at_16.Goals as goal

pub returns : goal.returns
returns c = first_gate
