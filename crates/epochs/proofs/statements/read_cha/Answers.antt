use Rattle.std.proofs.Common.{rules, arith, ◌≡◌, ◌∷◌, [], length}
use Rattle.std.proofs.lemmas.Result.{err_from_is_err_and}
use Rattle.channel_globs.specs.declared.nslc.Part.TheVariants.{Network, Station, Location, Channel}
use Rattle.epochs.specs.declared.quantity.Quantity.TheVariants.{Latitude, Longitude, Azimuth, Dip, Rate, Measure}
use Rattle.epochs.specs.declared.kinds.LineKind.TheVariants.{Cha}
use Rattle.epochs.specs.declared.kinds.Head.TheVariants.{Says}
use Rattle.epochs.specs.Kinds.{CodeOf, Words, Time, End, Required, Optional}
use Rattle.epochs.specs.Fields.{code, words}
use Rattle.epochs.specs.Values.{time_value, end_value, number_value, optional_value}
use Rattle.epochs.proofs.LadderSteps.{backward_behind, spellable_behind, group_among, refused_behind, some_from, spelled_behind}
use Rattle.epochs.proofs.statements.read_cha.Goals as goal

pub returns-in_err-position-clause-refused : goal.returns-in_err-position-clause-refused
returns-in_err-position-clause-refused c =
    let fields = c.args.fields.now in
    let count : length c.args.fields.now ≡ 17 = omega (arith, c.in-len17.len_at_least, c.in-len17.len_below) in
    let p = err_from_is_err_and c.from_residual-in_err-position.result c.from_residual-in_err-position.ensures.1 in
    let bad = group_among (CodeOf Network ∷ CodeOf Station ∷ CodeOf Location ∷ CodeOf Channel ∷ []) (Required Latitude ∷ Required Longitude ∷ Required Measure ∷ []) (Required Measure ∷ Optional Azimuth ∷ Optional Dip ∷ Words ∷ Optional Measure ∷ Optional Measure ∷ Words ∷ Required Rate ∷ Time ∷ End ∷ []) 2 (some_from fields 0 4) (some_from fields 4 3) (some_from fields 7 10)
    (code c.in_ok-name.name.network ∷ code c.in_ok-name.name.station ∷ code c.in_ok-name.name.location ∷ code c.in_ok-name.name.channel ∷ []) c.in_err-position.field-0.0 (c.in_ok-name.ensures.value.0, (c.in_ok-name.ensures.value.1.0, (c.in_ok-name.ensures.value.1.1.0, (c.in_ok-name.ensures.value.1.1.1.0, tt)))) c.in_err-position.ensures.refused in
    rw (p.1, p.2) (refused_behind (Says Cha) fields c.in_err-position.field-0.0 count bad)

pub returns-in_err-sensor-clause-refused : goal.returns-in_err-sensor-clause-refused
returns-in_err-sensor-clause-refused c =
    let fields = c.args.fields.now in
    let count : length c.args.fields.now ≡ 17 = omega (arith, c.in-len17.len_at_least, c.in-len17.len_below) in
    let p = err_from_is_err_and c.from_residual-in_err-sensor.result c.from_residual-in_err-sensor.ensures.1 in
    let bad = group_among (CodeOf Network ∷ CodeOf Station ∷ CodeOf Location ∷ CodeOf Channel ∷ Required Latitude ∷ Required Longitude ∷ Required Measure ∷ []) (Required Measure ∷ Optional Azimuth ∷ Optional Dip ∷ Words ∷ []) (Optional Measure ∷ Optional Measure ∷ Words ∷ Required Rate ∷ Time ∷ End ∷ []) 2 (some_from fields 0 7) (some_from fields 7 4) (some_from fields 11 6)
    (code c.in_ok-name.name.network ∷ code c.in_ok-name.name.station ∷ code c.in_ok-name.name.location ∷ code c.in_ok-name.name.channel ∷ number_value c.in_ok-position.position.latitude ∷ number_value c.in_ok-position.position.longitude ∷ number_value c.in_ok-position.position.elevation ∷ []) c.in_err-sensor.field-0.0 (c.in_ok-name.ensures.value.0, (c.in_ok-name.ensures.value.1.0, (c.in_ok-name.ensures.value.1.1.0, (c.in_ok-name.ensures.value.1.1.1.0, (c.in_ok-position.ensures.value.0, (c.in_ok-position.ensures.value.1.0, (c.in_ok-position.ensures.value.1.1.0, tt))))))) c.in_err-sensor.ensures.refused in
    rw (p.1, p.2) (refused_behind (Says Cha) fields c.in_err-sensor.field-0.0 count bad)

pub returns-in_err-response-clause-refused : goal.returns-in_err-response-clause-refused
returns-in_err-response-clause-refused c =
    let fields = c.args.fields.now in
    let count : length c.args.fields.now ≡ 17 = omega (arith, c.in-len17.len_at_least, c.in-len17.len_below) in
    let p = err_from_is_err_and c.from_residual-in_err-response.result c.from_residual-in_err-response.ensures.1 in
    let bad = group_among (CodeOf Network ∷ CodeOf Station ∷ CodeOf Location ∷ CodeOf Channel ∷ Required Latitude ∷ Required Longitude ∷ Required Measure ∷ Required Measure ∷ Optional Azimuth ∷ Optional Dip ∷ Words ∷ []) (Optional Measure ∷ Optional Measure ∷ Words ∷ Required Rate ∷ []) (Time ∷ End ∷ []) 2 (some_from fields 0 11) (some_from fields 11 4) (some_from fields 15 2)
    (code c.in_ok-name.name.network ∷ code c.in_ok-name.name.station ∷ code c.in_ok-name.name.location ∷ code c.in_ok-name.name.channel ∷ number_value c.in_ok-position.position.latitude ∷ number_value c.in_ok-position.position.longitude ∷ number_value c.in_ok-position.position.elevation ∷ number_value c.in_ok-sensor.sensor.depth ∷ optional_value c.in_ok-sensor.sensor.azimuth ∷ optional_value c.in_ok-sensor.sensor.dip ∷ words c.in_ok-sensor.sensor.sensor ∷ []) c.in_err-response.field-0.0 (c.in_ok-name.ensures.value.0, (c.in_ok-name.ensures.value.1.0, (c.in_ok-name.ensures.value.1.1.0, (c.in_ok-name.ensures.value.1.1.1.0, (c.in_ok-position.ensures.value.0, (c.in_ok-position.ensures.value.1.0, (c.in_ok-position.ensures.value.1.1.0, (c.in_ok-sensor.ensures.value.0, (c.in_ok-sensor.ensures.value.1.0, (c.in_ok-sensor.ensures.value.1.1.0, (c.in_ok-sensor.ensures.value.1.1.1.0, tt))))))))))) c.in_err-response.ensures.refused in
    rw (p.1, p.2) (refused_behind (Says Cha) fields c.in_err-response.field-0.0 count bad)

pub returns-in_err-times-clause-refused : goal.returns-in_err-times-clause-refused
returns-in_err-times-clause-refused c =
    let fields = c.args.fields.now in
    let count : length c.args.fields.now ≡ 17 = omega (arith, c.in-len17.len_at_least, c.in-len17.len_below) in
    let p = err_from_is_err_and c.from_residual-in_err-times.result c.from_residual-in_err-times.ensures.1 in
    let bad = group_among (CodeOf Network ∷ CodeOf Station ∷ CodeOf Location ∷ CodeOf Channel ∷ Required Latitude ∷ Required Longitude ∷ Required Measure ∷ Required Measure ∷ Optional Azimuth ∷ Optional Dip ∷ Words ∷ Optional Measure ∷ Optional Measure ∷ Words ∷ Required Rate ∷ []) (Time ∷ End ∷ []) [] 2 (some_from fields 0 15) (some_from fields 15 2) (some_from fields 17 0)
    (code c.in_ok-name.name.network ∷ code c.in_ok-name.name.station ∷ code c.in_ok-name.name.location ∷ code c.in_ok-name.name.channel ∷ number_value c.in_ok-position.position.latitude ∷ number_value c.in_ok-position.position.longitude ∷ number_value c.in_ok-position.position.elevation ∷ number_value c.in_ok-sensor.sensor.depth ∷ optional_value c.in_ok-sensor.sensor.azimuth ∷ optional_value c.in_ok-sensor.sensor.dip ∷ words c.in_ok-sensor.sensor.sensor ∷ optional_value c.in_ok-response.response.scale ∷ optional_value c.in_ok-response.response.scale_freq ∷ words c.in_ok-response.response.scale_units ∷ number_value c.in_ok-response.response.sample_rate ∷ []) c.in_err-times.field-0.0 (c.in_ok-name.ensures.value.0, (c.in_ok-name.ensures.value.1.0, (c.in_ok-name.ensures.value.1.1.0, (c.in_ok-name.ensures.value.1.1.1.0, (c.in_ok-position.ensures.value.0, (c.in_ok-position.ensures.value.1.0, (c.in_ok-position.ensures.value.1.1.0, (c.in_ok-sensor.ensures.value.0, (c.in_ok-sensor.ensures.value.1.0, (c.in_ok-sensor.ensures.value.1.1.0, (c.in_ok-sensor.ensures.value.1.1.1.0, (c.in_ok-response.ensures.value.0, (c.in_ok-response.ensures.value.1.0, (c.in_ok-response.ensures.value.1.1.0, (c.in_ok-response.ensures.value.1.1.1.0, tt))))))))))))))) c.in_err-times.ensures.refused in
    rw (p.1, p.2) (refused_behind (Says Cha) fields c.in_err-times.field-0.0 count bad)

pub returns-then-not-is_in_order-clause-refused : goal.returns-then-not-is_in_order-clause-refused
returns-then-not-is_in_order-clause-refused c =
    let fields = c.args.fields.now in
    let count : length c.args.fields.now ≡ 17 = omega (arith, c.in-len17.len_at_least, c.in-len17.len_below) in
    backward_behind (Says Cha) fields
    (code c.in_ok-name.name.network ∷ code c.in_ok-name.name.station ∷ code c.in_ok-name.name.location ∷ code c.in_ok-name.name.channel ∷ number_value c.in_ok-position.position.latitude ∷ number_value c.in_ok-position.position.longitude ∷ number_value c.in_ok-position.position.elevation ∷ number_value c.in_ok-sensor.sensor.depth ∷ optional_value c.in_ok-sensor.sensor.azimuth ∷ optional_value c.in_ok-sensor.sensor.dip ∷ words c.in_ok-sensor.sensor.sensor ∷ optional_value c.in_ok-response.response.scale ∷ optional_value c.in_ok-response.response.scale_freq ∷ words c.in_ok-response.response.scale_units ∷ number_value c.in_ok-response.response.sample_rate ∷ time_value c.in_ok-times.times.start ∷ end_value c.in_ok-times.times.end ∷ [])
    count (c.in_ok-name.ensures.value.0, (c.in_ok-name.ensures.value.1.0, (c.in_ok-name.ensures.value.1.1.0, (c.in_ok-name.ensures.value.1.1.1.0, (c.in_ok-position.ensures.value.0, (c.in_ok-position.ensures.value.1.0, (c.in_ok-position.ensures.value.1.1.0, (c.in_ok-sensor.ensures.value.0, (c.in_ok-sensor.ensures.value.1.0, (c.in_ok-sensor.ensures.value.1.1.0, (c.in_ok-sensor.ensures.value.1.1.1.0, (c.in_ok-response.ensures.value.0, (c.in_ok-response.ensures.value.1.0, (c.in_ok-response.ensures.value.1.1.0, (c.in_ok-response.ensures.value.1.1.1.0, (c.in_ok-times.ensures.value.0, (c.in_ok-times.ensures.value.1.0, tt))))))))))))))))) (search rules)

pub invariant_of-result : goal.invariant_of-result
invariant_of-result c =
    let fields = c.args.fields.now in
    record {
      spellable = spellable_behind (Says Cha) fields
          (code c.in_ok-name.name.network ∷ code c.in_ok-name.name.station ∷ code c.in_ok-name.name.location ∷ code c.in_ok-name.name.channel ∷ number_value c.in_ok-position.position.latitude ∷ number_value c.in_ok-position.position.longitude ∷ number_value c.in_ok-position.position.elevation ∷ number_value c.in_ok-sensor.sensor.depth ∷ optional_value c.in_ok-sensor.sensor.azimuth ∷ optional_value c.in_ok-sensor.sensor.dip ∷ words c.in_ok-sensor.sensor.sensor ∷ optional_value c.in_ok-response.response.scale ∷ optional_value c.in_ok-response.response.scale_freq ∷ words c.in_ok-response.response.scale_units ∷ number_value c.in_ok-response.response.sample_rate ∷ time_value c.in_ok-times.times.start ∷ end_value c.in_ok-times.times.end ∷ [])
          (c.in_ok-name.ensures.value.0, (c.in_ok-name.ensures.value.1.0, (c.in_ok-name.ensures.value.1.1.0, (c.in_ok-name.ensures.value.1.1.1.0, (c.in_ok-position.ensures.value.0, (c.in_ok-position.ensures.value.1.0, (c.in_ok-position.ensures.value.1.1.0, (c.in_ok-sensor.ensures.value.0, (c.in_ok-sensor.ensures.value.1.0, (c.in_ok-sensor.ensures.value.1.1.0, (c.in_ok-sensor.ensures.value.1.1.1.0, (c.in_ok-response.ensures.value.0, (c.in_ok-response.ensures.value.1.0, (c.in_ok-response.ensures.value.1.1.0, (c.in_ok-response.ensures.value.1.1.1.0, (c.in_ok-times.ensures.value.0, (c.in_ok-times.ensures.value.1.0, tt))))))))))))))))) (c.is_in_order.ensures.0 c.if-not-is_in_order.false);
    }

pub returns-clause-value : goal.returns-clause-value
returns-clause-value c =
    let fields = c.args.fields.now in
    let count : length c.args.fields.now ≡ 17 = omega (arith, c.in-len17.len_at_least, c.in-len17.len_below) in
    spelled_behind (Says Cha) fields
    (code c.in_ok-name.name.network ∷ code c.in_ok-name.name.station ∷ code c.in_ok-name.name.location ∷ code c.in_ok-name.name.channel ∷ number_value c.in_ok-position.position.latitude ∷ number_value c.in_ok-position.position.longitude ∷ number_value c.in_ok-position.position.elevation ∷ number_value c.in_ok-sensor.sensor.depth ∷ optional_value c.in_ok-sensor.sensor.azimuth ∷ optional_value c.in_ok-sensor.sensor.dip ∷ words c.in_ok-sensor.sensor.sensor ∷ optional_value c.in_ok-response.response.scale ∷ optional_value c.in_ok-response.response.scale_freq ∷ words c.in_ok-response.response.scale_units ∷ number_value c.in_ok-response.response.sample_rate ∷ time_value c.in_ok-times.times.start ∷ end_value c.in_ok-times.times.end ∷ [])
    count (c.in_ok-name.ensures.value.0, (c.in_ok-name.ensures.value.1.0, (c.in_ok-name.ensures.value.1.1.0, (c.in_ok-name.ensures.value.1.1.1.0, (c.in_ok-position.ensures.value.0, (c.in_ok-position.ensures.value.1.0, (c.in_ok-position.ensures.value.1.1.0, (c.in_ok-sensor.ensures.value.0, (c.in_ok-sensor.ensures.value.1.0, (c.in_ok-sensor.ensures.value.1.1.0, (c.in_ok-sensor.ensures.value.1.1.1.0, (c.in_ok-response.ensures.value.0, (c.in_ok-response.ensures.value.1.0, (c.in_ok-response.ensures.value.1.1.0, (c.in_ok-response.ensures.value.1.1.1.0, (c.in_ok-times.ensures.value.0, (c.in_ok-times.ensures.value.1.0, tt))))))))))))))))) (c.is_in_order.ensures.0 c.if-not-is_in_order.false)
