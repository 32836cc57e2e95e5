use Rattle.std.proofs.Common.{filter}
use Rattle.coverage_report.specs.Lines.{names_of}
use Rattle.coverage_report.proofs.Placed.{name_seen, name_passed}
use Rattle.coverage_report.proofs.rows.names_seen.Goals as goal
use Rattle.coverage_report.proofs.rows.names_seen.Goals.{then-sees+in_ok-insert, else-sees}

pub rows-preserved : goal.rows-preserved
rows-preserved g c =
    let seen = g.V.Sight.seen c.args.sight.now in
    let held = g.S.Shelf.rows c.args.shelf.now in
    let row = c.row-row.result.now in
    record {
      names = elim c.if-sees.branch [
        | then-sees+in_ok-insert w ↦ rw w.names-is (name_seen seen held c.rows.place row c.rows.names.keys w.insert.new.self.keys (names_of (filter seen held)) c.sees.result c.row-row.ensures c.sees.ensures w.if-sees.true w.in_ok-insert.ensures.keys c.rows.invariant.names)
        | else-sees w ↦ rw w.names-is (name_passed seen held c.rows.place row c.rows.names.keys (names_of (filter seen held)) c.sees.result c.row-row.ensures c.sees.ensures w.if-sees.false c.rows.invariant.names)
      ];
      all = c.rows.invariant.all;
    }
