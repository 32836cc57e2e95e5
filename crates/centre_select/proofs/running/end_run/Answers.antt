use Rattle.std.proofs.Common.{Ok, Err, refl}
use Rattle.centre_select.proofs.Rows.{tells_nothing}
use Rattle.centre_select.proofs.running.end_run.Goals as goal

pub returns-in-Ok : goal.returns-in-Ok
returns-in-Ok g c = record { told = Ok tt; same = rw c.in-Ok.is refl; ends = record { status_is = refl; text = tells_nothing _ } }

pub returns-in-Err : goal.returns-in-Err
returns-in-Err g c = record {
  told = Err c.tell_stop.result;
  same = rw c.in-Err.is (c.tell_stop.result, refl, c.tell_stop.ensures.same);
  ends = record { status_is = c.status.ensures; text = c.tell_stop.ensures.text };
}
