use Rattle.split_fetch.proofs.RoundsSound.{accepted}
use Rattle.split_fetch.proofs.law.accepted_windows_make_the_whole.Goals as goal

pub returns : goal.returns
returns c = λ whole heard taken forward is. accepted whole forward heard taken is
