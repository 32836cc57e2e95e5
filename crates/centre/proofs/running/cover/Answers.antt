use Rattle.std.proofs.Common.{refl}
use Rattle.centre.proofs.running.cover.Goals as goal

pub returns : goal.returns
returns g c = record { row = record { outcome = c.coverage-ending.result.ending; row = record { others = refl; row = c.coverage-ending.ensures.row }; same = c.ending_of_coverage.ensures } }
