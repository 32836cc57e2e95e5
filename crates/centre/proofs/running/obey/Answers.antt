use Rattle.std.proofs.Common.{inl, refl}
use Rattle.centre.proofs.Ports.{ports_as}
use Rattle.centre.proofs.running.obey.Goals as goal

pub returns-in-Err : goal.returns-in-Err
returns-in-Err g c = record { row = inl (refl, refl, inl (ports_as g.P.Port.view (λ worker. worker.port) c.ports_of.result.items c.args.workers.items c.ports_of.ensures)) }
