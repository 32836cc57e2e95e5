use Rattle.centre_coverage.proofs.OneReport.{one_coverage}
use Rattle.centre_coverage.proofs.law.one_coverage_answer.Goals as goal

pub returns : goal.returns
returns c = λ w file a b h k. one_coverage w file a b h k
