use Rattle.epochs.proofs.OneRevision.{revision_or_fault}
use Rattle.epochs.proofs.law.a_body_is_one_revision_or_one_fault.Goals as goal

pub returns : goal.returns
returns c = revision_or_fault
