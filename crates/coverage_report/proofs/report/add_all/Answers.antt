use Rattle.std.proofs.Common.{filter}
use Rattle.coverage_report.proofs.Totals.{lines_begun, names_begun}
use Rattle.coverage_report.proofs.report.add_all.Goals as goal

pub names-init : goal.names-init
names-init g c =
    let rows = filter (g.V.Sight.seen c.args.sight.now) (g.S.Shelf.rows c.args.shelf.now) in
    let it = c.into_iter-name-iterator in
    let names = c.in_ok-names in
    record {
      lines = lines_begun rows it.result names.names.keys it.ensures.into_iter_gives.0 names.ensures c.args.first.micros c.args.days c.args.lines.now;
      each = names_begun rows it.result names.names.keys it.ensures.into_iter_gives.0 names.ensures;
    }
