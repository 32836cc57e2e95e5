use Rattle.mseed_header.proofs.OneBatch.{batch_or_fault}
use Rattle.mseed_header.proofs.law.bytes_are_records_or_one_is_the_first_refused.Goals as goal

pub returns : goal.returns
returns c = batch_or_fault
