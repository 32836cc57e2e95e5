use Rattle.list_laws.proofs.Greatest.{greater_comm, greater_assoc}
use Rattle.list_laws.proofs.the_greater_is_one.Goals as goal

pub returns : goal.returns
returns g c = λ exact a b c'. (greater_comm _ g.met.K.Ord.total exact a b, greater_assoc _ g.met.K.Ord.total exact a b c')
