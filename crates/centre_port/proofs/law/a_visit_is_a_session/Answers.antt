use Rattle.centre_port.proofs.Visits.{visit_session}
use Rattle.centre_port.proofs.law.a_visit_is_a_session.Goals as goal

pub returns : goal.returns
returns c = visit_session
