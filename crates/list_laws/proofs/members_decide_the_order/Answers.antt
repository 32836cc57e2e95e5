use Rattle.list_laws.proofs.Keys.{sorted_in_order, any_in_order, same_in_order}
use Rattle.list_laws.proofs.members_decide_the_order.Goals as goal

pub returns-clause-sorted : goal.returns-clause-sorted
returns-clause-sorted g c = λ keys. sorted_in_order g.met.K.Ord.total keys

pub returns-clause-members : goal.returns-clause-members
returns-clause-members g c = λ exact test keys. any_in_order exact test keys

pub returns-clause-decided : goal.returns-clause-decided
returns-clause-decided g c = λ exact xs ys same. same_in_order g.met.K.Ord.total exact xs ys same
