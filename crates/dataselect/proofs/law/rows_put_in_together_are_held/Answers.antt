use Rattle.dataselect.proofs.Held.{held_all}
use Rattle.dataselect.proofs.law.rows_put_in_together_are_held.Goals as goal

pub returns : goal.returns
returns c = held_all
