use Rattle.centre.proofs.SomeAnswer.{some_answer}
use Rattle.centre.proofs.law.some_answer.Goals as goal

pub returns : goal.returns
returns c = some_answer
