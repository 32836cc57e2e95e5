use Rattle.std.proofs.Common.{Ok, Err, inl, inr, refl, rules}
use Rattle.centre.specs.declared.ending.Stop.TheVariants.{OutOfMemory}
use Rattle.centre_select.proofs.Rows.{tells_nothing}
use Rattle.centre.proofs.Rows.{told_row}
use Rattle.centre.proofs.Settling.{rows}
use Rattle.centre.proofs.running.run.Goals as goal

pub returns-in_default-clause-table : goal.returns-in_default-clause-table
returns-in_default-clause-table g c = record {
  ending = Err OutOfMemory;
  row = inl (refl, refl, inr (search rules));
  status_is = c.out_of_memory.ensures.status;
  text = c.out_of_memory.ensures.text;
}

pub returns-in-Err-clause-table : goal.returns-in-Err-clause-table
returns-in-Err-clause-table g c = record {
  ending = Err c.tell_stop.result;
  row = told_row _ _ _ _ _ c.in-Err.stop c.tell_stop.result (rw c.in-Err.is at c.obey-ending.ensures.row) c.tell_stop.ensures.same;
  status_is = c.status.ensures;
  text = c.tell_stop.ensures.text;
}

pub returns-in-Ok-ending-clause-table : goal.returns-in-Ok-ending-clause-table
returns-in-Ok-ending-clause-table g c = record { ending = Ok tt; row = (rw c.in-Ok-ending.is at c.obey-ending.ensures.row); status_is = refl; text = tells_nothing _ }

pub returns-in_default-clause-rows : goal.returns-in_default-clause-rows
returns-in_default-clause-rows g c = rows _ _ _ _ _ _ _ _ (returns-in_default-clause-table g c)

pub returns-in-Err-clause-rows : goal.returns-in-Err-clause-rows
returns-in-Err-clause-rows g c = rows _ _ _ _ _ _ _ _ (returns-in-Err-clause-table g c)

pub returns-in-Ok-ending-clause-rows : goal.returns-in-Ok-ending-clause-rows
returns-in-Ok-ending-clause-rows g c = rows _ _ _ _ _ _ _ _ (returns-in-Ok-ending-clause-table g c)
