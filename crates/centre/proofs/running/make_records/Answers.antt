use Rattle.std.proofs.Common.{refl}
use Rattle.centre.proofs.running.make_records.Goals as goal

pub returns : goal.returns
returns g c = record { row = record { outcome = c.drill-ending.result.ending; row = record { others = refl; row = c.drill-ending.ensures.row }; same = c.ending_of_drill.ensures } }
