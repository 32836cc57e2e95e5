use Rattle.follow_round.proofs.OneLink.{one_link}
use Rattle.follow_round.proofs.law.a_link_is_heard_in_one_way.Goals as goal

pub returns : goal.returns
returns c = one_link
