use Rattle.centre_fetch.proofs.OneFetch.{one_fetch}
use Rattle.centre_fetch.proofs.law.one_fetch_answer.Goals as goal

pub returns : goal.returns
returns c = λ w heard a b h k. one_fetch w heard a b h k
