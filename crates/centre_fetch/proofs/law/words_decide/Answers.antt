use Rattle.centre_fetch.proofs.Decide.{words_decide}
use Rattle.centre_fetch.proofs.law.words_decide.Goals as goal

pub returns : goal.returns
returns c = λ w. words_decide w
