use Rattle.centre.proofs.OneAnswer.{one_answer}
use Rattle.centre.proofs.law.one_answer_at_most.Goals as goal

pub returns : goal.returns
returns c = one_answer
