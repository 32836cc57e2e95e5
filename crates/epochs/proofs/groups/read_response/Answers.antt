use Rattle.std.proofs.Common.{◌∷◌, []}
use Rattle.std.proofs.lemmas.Result.{err_from_is_err_and}
use Rattle.epochs.specs.declared.quantity.Quantity.TheVariants.{Measure, Rate}
use Rattle.epochs.specs.Kinds.{Words, Required, Optional}
use Rattle.epochs.specs.Fields.{words}
use Rattle.epochs.specs.Values.{optional_value}
use Rattle.epochs.proofs.LadderSteps.{field_among}
use Rattle.epochs.proofs.groups.read_response.Goals as goal

pub returns-in_err-scale_freq-clause-refused : goal.returns-in_err-scale_freq-clause-refused
returns-in_err-scale_freq-clause-refused c =
    let p = err_from_is_err_and c.from_residual-in_err-scale_freq.result c.from_residual-in_err-scale_freq.ensures.1 in
    rw (p.1, p.2) (field_among (Optional Measure ∷ []) (Optional Measure) (Words ∷ Required Rate ∷ []) c.args.number (c.args.scale.now ∷ []) c.args.scale_freq.now (c.args.scale_units.now ∷ c.args.sample_rate.now ∷ []) (optional_value c.in_ok-scale.scale ∷ []) c.in_err-scale_freq.field-0.0 (c.in_ok-scale.ensures.value, tt) c.in_err-scale_freq.ensures.refused)

pub returns-in_err-scale_units-clause-refused : goal.returns-in_err-scale_units-clause-refused
returns-in_err-scale_units-clause-refused c =
    let p = err_from_is_err_and c.from_residual-in_err-scale_units.result c.from_residual-in_err-scale_units.ensures.1 in
    rw (p.1, p.2) (field_among (Optional Measure ∷ Optional Measure ∷ []) Words (Required Rate ∷ []) c.args.number (c.args.scale.now ∷ c.args.scale_freq.now ∷ []) c.args.scale_units.now (c.args.sample_rate.now ∷ []) (optional_value c.in_ok-scale.scale ∷ optional_value c.in_ok-scale_freq.scale_freq ∷ []) c.in_err-scale_units.field-0.0 (c.in_ok-scale.ensures.value, (c.in_ok-scale_freq.ensures.value, tt)) c.in_err-scale_units.ensures.refused)

pub returns-in_err-sample_rate-clause-refused : goal.returns-in_err-sample_rate-clause-refused
returns-in_err-sample_rate-clause-refused c =
    let p = err_from_is_err_and c.from_residual-in_err-sample_rate.result c.from_residual-in_err-sample_rate.ensures.1 in
    rw (p.1, p.2) (field_among (Optional Measure ∷ Optional Measure ∷ Words ∷ []) (Required Rate) [] c.args.number (c.args.scale.now ∷ c.args.scale_freq.now ∷ c.args.scale_units.now ∷ []) c.args.sample_rate.now [] (optional_value c.in_ok-scale.scale ∷ optional_value c.in_ok-scale_freq.scale_freq ∷ words c.in_ok-scale_units.scale_units ∷ []) c.in_err-sample_rate.field-0.0 (c.in_ok-scale.ensures.value, (c.in_ok-scale_freq.ensures.value, (c.in_ok-scale_units.ensures.value, tt))) c.in_err-sample_rate.ensures.refused)
