use Rattle.mseed_header.proofs.OneBatch.{header_or_fault}
use Rattle.mseed_header.proofs.law.bytes_begin_with_one_header_or_have_one_fault.Goals as goal

pub returns : goal.returns
returns c = header_or_fault
