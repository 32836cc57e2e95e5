use Rattle.std.proofs.Common.{rules}
use Rattle.centre.proofs.Ports.{ports_as, with_ports}
use Rattle.centre.proofs.running.obey_command.Goals as goal

pub returns-in-None : goal.returns-in-None
returns-in-None g c = record {
  row =
      with_ports g.D.Disk.view c.args.secret.now _ (g.S.Stream.view c.args.source.now) (g.K.Stream.view c.args.sink.now) c.args.disk (g.C.Clock.given c.args.clock.now) _ _ _ _
      (ports_as g.P.Port.view (λ worker. worker.port) c.ports_of.result.items c.args.workers.items c.ports_of.ensures) (search rules);
}

pub returns-in-Some-Show : goal.returns-in-Some-Show
returns-in-Some-Show g c = record {
  row =
      with_ports g.D.Disk.view c.args.secret.now _ (g.S.Stream.view c.args.source.now) (g.K.Stream.view c.args.sink.now) c.args.disk (g.C.Clock.given c.args.clock.now) _ _ _ _
      (ports_as g.P.Port.view (λ worker. worker.port) c.ports_of-in-Some-Show.result.items c.args.workers.items c.ports_of-in-Some-Show.ensures) (search rules);
}

pub returns-in-Some-Select : goal.returns-in-Some-Select
returns-in-Some-Select g c = record {
  row =
      with_ports g.D.Disk.view c.args.secret.now _ (g.S.Stream.view c.args.source.now) (g.K.Stream.view c.args.sink.now) c.args.disk (g.C.Clock.given c.args.clock.now) _ _ _ _
      (ports_as g.P.Port.view (λ worker. worker.port) c.ports_of-in-Some-Select.result.items c.args.workers.items c.ports_of-in-Some-Select.ensures) (search rules);
}

pub returns-in-Some-Init : goal.returns-in-Some-Init
returns-in-Some-Init g c = record {
  row =
      with_ports g.D.Disk.view c.args.secret.now _ (g.S.Stream.view c.args.source.now) (g.K.Stream.view c.args.sink.now) c.args.disk (g.C.Clock.given c.args.clock.now) _ _ _ _
      (ports_as g.P.Port.view (λ worker. worker.port) c.ports_of-ports.result.items c.args.workers.items c.ports_of-ports.ensures) (search rules);
}

pub returns-in-Some-Talk : goal.returns-in-Some-Talk
returns-in-Some-Talk g c = record {
  row =
      with_ports g.D.Disk.view c.args.secret.now _ (g.S.Stream.view c.args.source.now) (g.K.Stream.view c.args.sink.now) c.args.disk (g.C.Clock.given c.args.clock.now) _ _ _ _
      (ports_as g.P.Port.view (λ worker. worker.port) c.ports_of-ports-in-Some-Talk.result.items c.args.workers.items c.ports_of-ports-in-Some-Talk.ensures) (search rules);
}

pub returns-in-Some-Drill : goal.returns-in-Some-Drill
returns-in-Some-Drill g c = record {
  row =
      with_ports g.D.Disk.view c.args.secret.now _ (g.S.Stream.view c.args.source.now) (g.K.Stream.view c.args.sink.now) c.args.disk (g.C.Clock.given c.args.clock.now) _ _ _ _
      (ports_as g.P.Port.view (λ worker. worker.port) c.ports_of-ports-in-Some-Drill.result.items c.args.workers.items c.ports_of-ports-in-Some-Drill.ensures) (search rules);
}

pub returns-in-Some-Fetch : goal.returns-in-Some-Fetch
returns-in-Some-Fetch g c = record {
  row =
      with_ports g.D.Disk.view c.args.secret.now _ (g.S.Stream.view c.args.source.now) (g.K.Stream.view c.args.sink.now) c.args.disk (g.C.Clock.given c.args.clock.now) _ _ _ _
      (ports_as g.P.Port.view (λ worker. worker.port) c.ports_of-ports-in-Some-Fetch.result.items c.args.workers.items c.ports_of-ports-in-Some-Fetch.ensures) (search rules);
}

pub returns-in-Some-Coverage : goal.returns-in-Some-Coverage
returns-in-Some-Coverage g c = record {
  row =
      with_ports g.D.Disk.view c.args.secret.now _ (g.S.Stream.view c.args.source.now) (g.K.Stream.view c.args.sink.now) c.args.disk (g.C.Clock.given c.args.clock.now) _ _ _ _
      (ports_as g.P.Port.view (λ worker. worker.port) c.ports_of-ports-in-Some-Coverage.result.items c.args.workers.items c.ports_of-ports-in-Some-Coverage.ensures) (search rules);
}
