use Rattle.std.proofs.Common.{Ok, Err, refl, ap}
use Rattle.centre.proofs.selecting.choose.Goals as goal

pub returns-in-Ok : goal.returns-in-Ok
returns-in-Ok g c = record { row = record { outcome = Ok tt; row = c.in-Ok.ensures.row; same = refl } }

pub returns-in-Err : goal.returns-in-Err
returns-in-Err g c = record { row = record { outcome = Err c.in-Err.stop; row = c.in-Err.ensures.row; same = ap Err c.stop_for_select.ensures } }
