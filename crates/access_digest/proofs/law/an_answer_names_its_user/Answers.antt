use Rattle.access_digest.proofs.Named.{answer_names}
use Rattle.access_digest.proofs.law.an_answer_names_its_user.Goals as goal

pub returns : goal.returns
returns c = λ live asked now secret user. answer_names live asked now secret user
