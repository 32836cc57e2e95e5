use Rattle.std.proofs.Common.{List, filter, not, ap₂, subst, IfErr}
use Rattle.mseed_header.specs.declared.row.Row.{Row}
use Rattle.access_digest.specs.Access.{is_withdrawn}
use Rattle.coverage_report.specs.Answers.{report, RefusesAs}
use Rattle.centre_coverage.proofs.reporting.report.Goals as goal

pub returns-clause-refused : goal.returns-clause-refused
returns-clause-refused c =
    let same = ap₂ (λ live all. filter (λ row. not (is_withdrawn live row)) all) c.catalog.ensures c.shelf.ensures in
    subst (λ (rows : List Row). IfErr c.report_of.result (RefusesAs (report rows c.args.first.micros c.args.days c.args.max_lines))) same c.report_of.ensures.refused
