use Rattle.centre_coverage.proofs.Decide.{words_decide}
use Rattle.centre_coverage.proofs.law.words_decide.Goals as goal

pub returns : goal.returns
returns c = λ w. words_decide w
