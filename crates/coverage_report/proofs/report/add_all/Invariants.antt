use Rattle.std.proofs.Common.{◌≡◌, filter}
use Rattle.std.specs.List.{AllByRecursion, flat_map}
use Rattle.coverage_report.specs.Lines.{lines_of_name, report_lines}
use Rattle.coverage_report.specs.Printable.{IsPrintableName}
use Rattle.coverage_report.specs.Sweep.{put_all}
use Rattle.coverage_report.proofs.report.add_all.Given as goal

abbrev pub invariant-names : goal.invariant-names
invariant-names g l = record {
  lines : put_all l.lines (flat_map (lines_of_name (filter (g.V.Sight.seen l.sight) (g.S.Shelf.rows l.shelf)) l.first.micros l.days) l.name-iterator)
      ≡ put_all l.fn.lines (report_lines (filter (g.V.Sight.seen l.sight) (g.S.Shelf.rows l.shelf)) l.first.micros l.days);
  each : AllByRecursion IsPrintableName l.name-iterator;
}
