use Rattle.archive_entry.proofs.Readings.{batch_of-only, batch_rows_are, batch_rows_is}
use Rattle.archive_entry.proofs.law.a_batch_has_one_reading.Goals as goal

pub returns-clause-answer : goal.returns-clause-answer
returns-clause-answer c = batch_of-only

pub returns-clause-rows : goal.returns-clause-rows
returns-clause-rows c = batch_rows_are

pub returns-clause-only : goal.returns-clause-only
returns-clause-only c = batch_rows_is
