use Rattle.std.proofs.Common.{◌∷◌, []}
use Rattle.std.proofs.lemmas.Result.{err_from_is_err_and}
use Rattle.epochs.specs.declared.quantity.Quantity.TheVariants.{Measure}
use Rattle.epochs.specs.Kinds.{Words, Optional}
use Rattle.epochs.specs.Fields.{words}
use Rattle.epochs.specs.Values.{optional_value}
use Rattle.epochs.proofs.LadderSteps.{field_among}
use Rattle.epochs.proofs.groups.read_magnitude.Goals as goal

pub returns-in_err-magnitude-clause-refused : goal.returns-in_err-magnitude-clause-refused
returns-in_err-magnitude-clause-refused c =
    let p = err_from_is_err_and c.from_residual-in_err-magnitude.result c.from_residual-in_err-magnitude.ensures.1 in
    rw (p.1, p.2) (field_among (Words ∷ []) (Optional Measure) (Words ∷ Words ∷ []) c.args.number (c.args.kind.now ∷ []) c.args.magnitude.now (c.args.author.now ∷ c.args.location.now ∷ []) (words c.in_ok-kind.kind ∷ []) c.in_err-magnitude.field-0.0 (c.in_ok-kind.ensures.value, tt) c.in_err-magnitude.ensures.refused)

pub returns-in_err-author-clause-refused : goal.returns-in_err-author-clause-refused
returns-in_err-author-clause-refused c =
    let p = err_from_is_err_and c.from_residual-in_err-author.result c.from_residual-in_err-author.ensures.1 in
    rw (p.1, p.2) (field_among (Words ∷ Optional Measure ∷ []) Words (Words ∷ []) c.args.number (c.args.kind.now ∷ c.args.magnitude.now ∷ []) c.args.author.now (c.args.location.now ∷ []) (words c.in_ok-kind.kind ∷ optional_value c.in_ok-magnitude.magnitude ∷ []) c.in_err-author.field-0.0 (c.in_ok-kind.ensures.value, (c.in_ok-magnitude.ensures.value, tt)) c.in_err-author.ensures.refused)

pub returns-in_err-location-clause-refused : goal.returns-in_err-location-clause-refused
returns-in_err-location-clause-refused c =
    let p = err_from_is_err_and c.from_residual-in_err-location.result c.from_residual-in_err-location.ensures.1 in
    rw (p.1, p.2) (field_among (Words ∷ Optional Measure ∷ Words ∷ []) Words [] c.args.number (c.args.kind.now ∷ c.args.magnitude.now ∷ c.args.author.now ∷ []) c.args.location.now [] (words c.in_ok-kind.kind ∷ optional_value c.in_ok-magnitude.magnitude ∷ words c.in_ok-author.author ∷ []) c.in_err-location.field-0.0 (c.in_ok-kind.ensures.value, (c.in_ok-magnitude.ensures.value, (c.in_ok-author.ensures.value, tt))) c.in_err-location.ensures.refused)
