use Rattle.std.proofs.Common.{refl}
use Rattle.centre.proofs.running.host.Goals as goal

pub returns : goal.returns
returns g c = record {
  row = record {
    outcome = c.serve-ending.result.ending;
    row = record { limits = c.limits_for-limits.result; limits_are = c.limits_for-limits.ensures; others = refl; row = c.serve-ending.ensures.row };
    same = c.ending_of_serve.ensures;
  };
}
