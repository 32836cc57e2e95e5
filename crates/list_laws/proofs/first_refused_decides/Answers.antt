use Rattle.list_laws.proofs.Refusals.{first_refused}
use Rattle.list_laws.proofs.first_refused_decides.Goals as goal

pub returns : goal.returns
returns g c = λ step n s xs fault h. first_refused step n s xs fault h
