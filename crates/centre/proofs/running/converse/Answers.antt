use Rattle.std.proofs.Common.{refl}
use Rattle.centre.proofs.running.converse.Goals as goal

pub returns : goal.returns
returns g c = record {
  row = record {
    outcome = c.talk-ending.result.ending;
    row = record { limits = c.limits_for-limits.result; limits_are = c.limits_for-limits.ensures; ports = refl; row = c.talk-ending.ensures.row };
    same = c.ending_of_talk.ensures;
  };
}
