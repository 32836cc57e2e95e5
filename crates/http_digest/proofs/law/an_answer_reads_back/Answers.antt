use Rattle.http_digest.proofs.AnswerLaw.{answer_reads_back}
use Rattle.http_digest.proofs.law.an_answer_reads_back.Goals as goal

pub returns : goal.returns
returns c = answer_reads_back
