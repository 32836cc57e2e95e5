use Rattle.std.proofs.Common.{◌≡◌, List, Result, Ok, Err, ap, map, sym, subst}
use Rattle.std.specs.Prelude.{IfOk}
use Rattle.epochs.specs.Lines.{LineValues}
use Rattle.epochs.specs.Views.{values_of_line}
use Rattle.epochs.specs.declared.fault.RevisionFault.{RevisionFault}
use Rattle.epochs.specs.declared.fault.RevisionFault.TheVariants as revision
use Rattle.archive_entry.proofs.Readings.{revision_is}
use Rattle.archive_state.specs.Verdicts.{totals, revise_verdict}
use Rattle.archive_state.proofs.judging.revise_verdict.Goals as goal

pub returns-in-Ok : goal.returns-in-Ok
returns-in-Ok c =
    let t = totals c.args.catalog.now c.args.sums.now.count c.args.sums.now.records c.args.sums.now.bytes in
    subst (λ (r : Result (List LineValues) RevisionFault). IfOk c.kept_verdict.result (λ v. v ≡ revise_verdict t c.args.limits.now c.args.body.now r))
    (sym (revision_is c.args.body.now (Ok (map values_of_line c.in-Ok.lines)) c.in-Ok.ensures.lines)) c.kept_verdict.ensures

pub returns-in-Err-Bad : goal.returns-in-Err-Bad
returns-in-Err-Bad c =
    let t = totals c.args.catalog.now c.args.sums.now.count c.args.sums.now.records c.args.sums.now.bytes in
    let refused = rw c.in-Err-Bad.field-0-is at c.in-Err-Bad.ensures.refused in
    ap (revise_verdict t c.args.limits.now c.args.body.now) (sym (revision_is c.args.body.now (Err (revision.Bad c.in-Err-Bad.line c.in-Err-Bad.fault)) refused))
