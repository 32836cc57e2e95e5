use Rattle.http_wire.proofs.Told.{target_of_all}
use Rattle.http_wire.proofs.law.a_front_holds_its_target.Goals as goal

pub returns : goal.returns
returns c = target_of_all
