use Rattle.split_fetch.proofs.TargetRead.{target_reads}
use Rattle.split_fetch.proofs.law.a_target_reads_back.Goals as goal

pub returns : goal.returns
returns c = λ codes window patterns spelt can. target_reads codes window patterns spelt can
