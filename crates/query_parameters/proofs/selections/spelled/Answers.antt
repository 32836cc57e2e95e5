use Rattle.std.proofs.lemmas.Result.{err_from_is_err_and}
use Rattle.query_parameters.specs.Selecting.{texts}
use Rattle.query_parameters.proofs.SelectionSteps.{no_spelling}
use Rattle.query_parameters.proofs.selections.spelled.Goals as goal

pub returns-in_err-start-clause-refused : goal.returns-in_err-start-clause-refused
returns-in_err-start-clause-refused c =
    let p = err_from_is_err_and c.from_residual.result c.from_residual.ensures.1 in
    rw (p.1, p.2) (no_spelling (texts c.args.fields.now) c.in_err-start.field-0.0 c.in_err-start.ensures.refused)
