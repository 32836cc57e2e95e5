use Rattle.std.proofs.Common.{◌≡◌, ◌∙◌, map, sym, ap, subst, Result, Err}
use Rattle.archive_log.specs.declared.fault.StartFault.TheVariants.{DiskFault}
use Rattle.desk_words.specs.Setting.{setting}
use Rattle.centre_serve.proofs.Opening.{opened_row, refused_row, refailed}
use Rattle.centre_serve.proofs.Whole.{map_map}
use Rattle.centre_serve.specs.Service.{site, ServeRow}
use Rattle.centre_serve.specs.declared.ending.ServeStop.{ServeStop}
use Rattle.centre_serve.specs.declared.ending.ServeStop.TheVariants.{OutOfMemory}
use Rattle.centre_serve.proofs.serving.serve.Goals as goal

pub returns-in_default : goal.returns-in_default
returns-in_default g c =
    let view = g.D.Disk.view in
    let started = c.in-Ok.started in
    let opening = c.in-Ok.ensures in
    let short = c.without_memory.ensures in
    let ports = map (λ worker. g.P.Port.view worker.port) c.args.workers.items in
    let after = site (view c.without_memory.result.disk) (map g.P.Port.view c.without_memory.result.ports.items) in
    let same_ports = ap (map g.P.Port.view) short.ports ∙ map_map g.P.Port.view (λ worker. worker.port) c.args.workers.items in
    record {
      row =
          subst (λ (ending : Result (Unit {0}) ServeStop). ServeRow (setting c.args.secret.now c.args.limits.now) (site (view c.args.disk) ports) after ending) (sym short.ending)
          (opened_row (setting c.args.secret.now c.args.limits.now) (view c.args.disk) (view started.0.disk) ports after started.1 started.0.faults _ opening.disk opening.since opening.history opening.started.some
          (Err OutOfMemory) same_ports (λ same. ap view (short.disk ∙ c.close.ensures.disk)));
    }

pub returns-in-Err : goal.returns-in-Err
returns-in-Err g c =
    let view = g.D.Disk.view in
    let ports = map (λ worker. g.P.Port.view worker.port) c.args.workers.items in
    let before = site (view c.args.disk) ports in
    let after = site (view c.in-Err.disk) (map g.P.Port.view c.ports_of.result.items) in
    let same_ports = ap (map g.P.Port.view) c.ports_of.ensures ∙ map_map g.P.Port.view (λ worker. worker.port) c.args.workers.items in
    let cause = c.in-Err.ensures in
    record {
      row =
          subst (λ (stop : ServeStop). ServeRow (setting c.args.secret.now c.args.limits.now) before after (Err stop)) (sym c.stop_for_start.ensures)
          (refused_row (setting c.args.secret.now c.args.limits.now) before after c.in-Err.fault (record {
            disk = refailed (view c.args.disk) (view c.in-Err.disk) _ (c.in-Err.fault ≡ DiskFault) (λ same. ap Err same) cause.disk;
            cause = cause.fault;
            ports = same_ports;
          }));
    }

pub returns : goal.returns
returns g c =
    let view = g.D.Disk.view in
    let started = c.in-Ok.started in
    let opening = c.in-Ok.ensures in
    record {
      row =
          opened_row (setting c.args.secret.now c.args.limits.now) (view c.args.disk) (view started.0.disk) (map (λ worker. g.P.Port.view worker.port) c.args.workers.items)
          (site (view c.serve_named.result.disk) (map g.P.Port.view c.serve_named.result.ports.items)) started.1 started.0.faults _ opening.disk opening.since opening.history opening.started.some
          c.serve_named.result.ending c.serve_named.ensures.row (λ short. ap view (c.serve_named.ensures.starved short));
    }
