use Rattle.std.proofs.Common.{◌∷◌, []}
use Rattle.std.proofs.lemmas.Result.{err_from_is_err_and}
use Rattle.epochs.specs.Kinds.{Time, EventId}
use Rattle.epochs.specs.Fields.{words}
use Rattle.epochs.proofs.LadderSteps.{field_among}
use Rattle.epochs.proofs.groups.read_event.Goals as goal

pub returns-in_err-time-clause-refused : goal.returns-in_err-time-clause-refused
returns-in_err-time-clause-refused c =
    let p = err_from_is_err_and c.from_residual-in_err-time.result c.from_residual-in_err-time.ensures.1 in
    rw (p.1, p.2) (field_among (EventId ∷ []) Time [] c.args.number (c.args.id.now ∷ []) c.args.time.now [] (words c.in_ok-id.id ∷ []) c.in_err-time.field-0.0 (c.in_ok-id.ensures.value, tt) c.in_err-time.ensures.refused)
