use Rattle.std.proofs.Common.{◌∷◌, []}
use Rattle.std.proofs.lemmas.Result.{err_from_is_err_and}
use Rattle.epochs.specs.declared.quantity.Quantity.TheVariants.{Latitude, Longitude, Measure}
use Rattle.epochs.specs.Kinds.{Required}
use Rattle.epochs.specs.Values.{number_value}
use Rattle.epochs.proofs.LadderSteps.{field_among}
use Rattle.epochs.proofs.groups.read_position.Goals as goal

pub returns-in_err-longitude-clause-refused : goal.returns-in_err-longitude-clause-refused
returns-in_err-longitude-clause-refused c =
    let p = err_from_is_err_and c.from_residual-in_err-longitude.result c.from_residual-in_err-longitude.ensures.1 in
    rw (p.1, p.2) (field_among (Required Latitude ∷ []) (Required Longitude) (Required Measure ∷ []) c.args.number (c.args.latitude.now ∷ []) c.args.longitude.now (c.args.elevation.now ∷ []) (number_value c.in_ok-latitude.latitude ∷ []) c.in_err-longitude.field-0.0 (c.in_ok-latitude.ensures.value, tt) c.in_err-longitude.ensures.refused)

pub returns-in_err-elevation-clause-refused : goal.returns-in_err-elevation-clause-refused
returns-in_err-elevation-clause-refused c =
    let p = err_from_is_err_and c.from_residual-in_err-elevation.result c.from_residual-in_err-elevation.ensures.1 in
    rw (p.1, p.2) (field_among (Required Latitude ∷ Required Longitude ∷ []) (Required Measure) [] c.args.number (c.args.latitude.now ∷ c.args.longitude.now ∷ []) c.args.elevation.now [] (number_value c.in_ok-latitude.latitude ∷ number_value c.in_ok-longitude.longitude ∷ []) c.in_err-elevation.field-0.0 (c.in_ok-latitude.ensures.value, (c.in_ok-longitude.ensures.value, tt)) c.in_err-elevation.ensures.refused)
