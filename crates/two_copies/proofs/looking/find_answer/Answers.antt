use Rattle.archive_history.proofs.Beginnings.{begins_itself}
use Rattle.two_copies.proofs.Rises.{rises}
use Rattle.two_copies.proofs.looking.find_answer.Goals as goal

pub enter_as-requires : goal.enter_as-requires
enter_as-requires g c x = rises _ _ (g.T.Absorb.state x) (g.T.Absorb.state x) (begins_itself _)
