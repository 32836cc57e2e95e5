use Rattle.std.proofs.Common.{◌∷◌, []}
use Rattle.std.proofs.lemmas.Result.{err_from_is_err_and}
use Rattle.epochs.specs.Kinds.{Time, End}
use Rattle.epochs.specs.Values.{time_value}
use Rattle.epochs.proofs.LadderSteps.{field_among}
use Rattle.epochs.proofs.groups.read_epoch.Goals as goal

pub returns-in_err-end-clause-refused : goal.returns-in_err-end-clause-refused
returns-in_err-end-clause-refused c =
    let p = err_from_is_err_and c.from_residual-in_err-end.result c.from_residual-in_err-end.ensures.1 in
    rw (p.1, p.2) (field_among (Time ∷ []) End [] c.args.number (c.args.start.now ∷ []) c.args.end.now [] (time_value c.in_ok-start.start ∷ []) c.in_err-end.field-0.0 (c.in_ok-start.ensures.value, tt) c.in_err-end.ensures.refused)
