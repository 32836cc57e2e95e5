use Rattle.http_answers.proofs.ReadSteps.{no_head_never}
use Rattle.http_answers.proofs.law.bytes_begin_with_no_head.Goals as goal

pub returns : goal.returns
returns c = no_head_never
