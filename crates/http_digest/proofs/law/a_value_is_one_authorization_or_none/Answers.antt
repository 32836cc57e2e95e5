use Rattle.http_digest.proofs.HeaderLaw.{one_answer}
use Rattle.http_digest.proofs.law.a_value_is_one_authorization_or_none.Goals as goal

pub returns : goal.returns
returns c = one_answer
