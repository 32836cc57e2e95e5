use Rattle.archive_entry.proofs.ReadBack.{entry_of_payload-spelling, length-spelling, spelling_fits}
use Rattle.archive_entry.proofs.law.what_is_spelled_reads_back.Goals as goal

pub returns-clause-back : goal.returns-clause-back
returns-clause-back c = entry_of_payload-spelling

pub returns-clause-size : goal.returns-clause-size
returns-clause-size c = length-spelling

pub returns-clause-fits : goal.returns-clause-fits
returns-clause-fits c = spelling_fits
