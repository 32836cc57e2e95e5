use Rattle.centre_port.proofs.Visits.{visits_extend}
use Rattle.centre_port.proofs.law.a_longer_history_keeps_visits.Goals as goal

pub returns : goal.returns
returns c = visits_extend
