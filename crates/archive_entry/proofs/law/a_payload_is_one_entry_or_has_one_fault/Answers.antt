use Rattle.archive_entry.proofs.Payloads.{one_answer}
use Rattle.archive_entry.proofs.law.a_payload_is_one_entry_or_has_one_fault.Goals as goal

pub returns : goal.returns
returns c = one_answer
