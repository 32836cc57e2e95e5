use Rattle.list_laws.proofs.Crossed.{cross_total}
use Rattle.list_laws.proofs.fractions_are_in_order.Goals as goal

pub returns : goal.returns
returns g c = λ num den some. cross_total num den some
