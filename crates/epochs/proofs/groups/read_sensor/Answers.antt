use Rattle.std.proofs.Common.{◌∷◌, []}
use Rattle.std.proofs.lemmas.Result.{err_from_is_err_and}
use Rattle.epochs.specs.declared.quantity.Quantity.TheVariants.{Measure, Azimuth, Dip}
use Rattle.epochs.specs.Kinds.{Words, Required, Optional}
use Rattle.epochs.specs.Values.{number_value, optional_value}
use Rattle.epochs.proofs.LadderSteps.{field_among}
use Rattle.epochs.proofs.groups.read_sensor.Goals as goal

pub returns-in_err-azimuth-clause-refused : goal.returns-in_err-azimuth-clause-refused
returns-in_err-azimuth-clause-refused c =
    let p = err_from_is_err_and c.from_residual-in_err-azimuth.result c.from_residual-in_err-azimuth.ensures.1 in
    rw (p.1, p.2) (field_among (Required Measure ∷ []) (Optional Azimuth) (Optional Dip ∷ Words ∷ []) c.args.number (c.args.depth.now ∷ []) c.args.azimuth.now (c.args.dip.now ∷ c.args.sensor.now ∷ []) (number_value c.in_ok-depth.depth ∷ []) c.in_err-azimuth.field-0.0 (c.in_ok-depth.ensures.value, tt) c.in_err-azimuth.ensures.refused)

pub returns-in_err-dip-clause-refused : goal.returns-in_err-dip-clause-refused
returns-in_err-dip-clause-refused c =
    let p = err_from_is_err_and c.from_residual-in_err-dip.result c.from_residual-in_err-dip.ensures.1 in
    rw (p.1, p.2) (field_among (Required Measure ∷ Optional Azimuth ∷ []) (Optional Dip) (Words ∷ []) c.args.number (c.args.depth.now ∷ c.args.azimuth.now ∷ []) c.args.dip.now (c.args.sensor.now ∷ []) (number_value c.in_ok-depth.depth ∷ optional_value c.in_ok-azimuth.azimuth ∷ []) c.in_err-dip.field-0.0 (c.in_ok-depth.ensures.value, (c.in_ok-azimuth.ensures.value, tt)) c.in_err-dip.ensures.refused)

pub returns-in_err-sensor-clause-refused : goal.returns-in_err-sensor-clause-refused
returns-in_err-sensor-clause-refused c =
    let p = err_from_is_err_and c.from_residual-in_err-sensor.result c.from_residual-in_err-sensor.ensures.1 in
    rw (p.1, p.2) (field_among (Required Measure ∷ Optional Azimuth ∷ Optional Dip ∷ []) Words [] c.args.number (c.args.depth.now ∷ c.args.azimuth.now ∷ c.args.dip.now ∷ []) c.args.sensor.now [] (number_value c.in_ok-depth.depth ∷ optional_value c.in_ok-azimuth.azimuth ∷ optional_value c.in_ok-dip.dip ∷ []) c.in_err-sensor.field-0.0 (c.in_ok-depth.ensures.value, (c.in_ok-azimuth.ensures.value, (c.in_ok-dip.ensures.value, tt))) c.in_err-sensor.ensures.refused)
