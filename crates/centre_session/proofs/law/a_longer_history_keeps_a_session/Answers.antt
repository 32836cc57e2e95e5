use Rattle.centre_session.proofs.Fronts.{extends, prefix_length}
use Rattle.centre_session.proofs.law.a_longer_history_keeps_a_session.Goals as goal

pub returns : goal.returns
returns c s h g k items turns replies p is = extends s h g k items turns replies p (prefix_length h g p) is
