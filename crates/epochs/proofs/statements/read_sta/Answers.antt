use Rattle.std.proofs.Common.{rules, arith, ◌≡◌, ◌∷◌, [], length}
use Rattle.std.proofs.lemmas.Result.{err_from_is_err_and}
use Rattle.channel_globs.specs.declared.nslc.Part.TheVariants.{Network, Station}
use Rattle.epochs.specs.declared.quantity.Quantity.TheVariants.{Latitude, Longitude, Measure}
use Rattle.epochs.specs.declared.kinds.LineKind.TheVariants.{Sta}
use Rattle.epochs.specs.declared.kinds.Head.TheVariants.{Says}
use Rattle.epochs.specs.Kinds.{CodeOf, Words, Time, End, Required}
use Rattle.epochs.specs.Fields.{code, words}
use Rattle.epochs.specs.Values.{time_value, end_value, number_value}
use Rattle.epochs.proofs.LadderSteps.{backward_behind, spellable_behind, field_among, group_among, refused_behind, some_from, spelled_behind, text_at}
use Rattle.epochs.proofs.statements.read_sta.Goals as goal

pub returns-in_err-station-clause-refused : goal.returns-in_err-station-clause-refused
returns-in_err-station-clause-refused c =
    let fields = c.args.fields.now in
    let count : length c.args.fields.now ≡ 8 = omega (arith, c.in-len8.len_at_least, c.in-len8.len_below) in
    let p = err_from_is_err_and c.from_residual-in_err-station.result c.from_residual-in_err-station.ensures.1 in
    let bad = field_among (CodeOf Network ∷ []) (CodeOf Station) (Required Latitude ∷ Required Longitude ∷ Required Measure ∷ Words ∷ Time ∷ End ∷ []) 2 (some_from fields 0 1) (text_at fields 1) (some_from fields 2 6)
    (code c.in_ok-network.network ∷ []) c.in_err-station.field-0.0 (c.in_ok-network.ensures.value, tt) c.in_err-station.ensures.refused in
    rw (p.1, p.2) (refused_behind (Says Sta) fields c.in_err-station.field-0.0 count bad)

pub returns-in_err-position-clause-refused : goal.returns-in_err-position-clause-refused
returns-in_err-position-clause-refused c =
    let fields = c.args.fields.now in
    let count : length c.args.fields.now ≡ 8 = omega (arith, c.in-len8.len_at_least, c.in-len8.len_below) in
    let p = err_from_is_err_and c.from_residual-in_err-position.result c.from_residual-in_err-position.ensures.1 in
    let bad = group_among (CodeOf Network ∷ CodeOf Station ∷ []) (Required Latitude ∷ Required Longitude ∷ Required Measure ∷ []) (Words ∷ Time ∷ End ∷ []) 2 (some_from fields 0 2) (some_from fields 2 3) (some_from fields 5 3)
    (code c.in_ok-network.network ∷ code c.in_ok-station.station ∷ []) c.in_err-position.field-0.0 (c.in_ok-network.ensures.value, (c.in_ok-station.ensures.value, tt)) c.in_err-position.ensures.refused in
    rw (p.1, p.2) (refused_behind (Says Sta) fields c.in_err-position.field-0.0 count bad)

pub returns-in_err-site-clause-refused : goal.returns-in_err-site-clause-refused
returns-in_err-site-clause-refused c =
    let fields = c.args.fields.now in
    let count : length c.args.fields.now ≡ 8 = omega (arith, c.in-len8.len_at_least, c.in-len8.len_below) in
    let p = err_from_is_err_and c.from_residual-in_err-site.result c.from_residual-in_err-site.ensures.1 in
    let bad = field_among (CodeOf Network ∷ CodeOf Station ∷ Required Latitude ∷ Required Longitude ∷ Required Measure ∷ []) Words (Time ∷ End ∷ []) 2 (some_from fields 0 5) (text_at fields 5) (some_from fields 6 2)
    (code c.in_ok-network.network ∷ code c.in_ok-station.station ∷ number_value c.in_ok-position.position.latitude ∷ number_value c.in_ok-position.position.longitude ∷ number_value c.in_ok-position.position.elevation ∷ []) c.in_err-site.field-0.0 (c.in_ok-network.ensures.value, (c.in_ok-station.ensures.value, (c.in_ok-position.ensures.value.0, (c.in_ok-position.ensures.value.1.0, (c.in_ok-position.ensures.value.1.1.0, tt))))) c.in_err-site.ensures.refused in
    rw (p.1, p.2) (refused_behind (Says Sta) fields c.in_err-site.field-0.0 count bad)

pub returns-in_err-times-clause-refused : goal.returns-in_err-times-clause-refused
returns-in_err-times-clause-refused c =
    let fields = c.args.fields.now in
    let count : length c.args.fields.now ≡ 8 = omega (arith, c.in-len8.len_at_least, c.in-len8.len_below) in
    let p = err_from_is_err_and c.from_residual-in_err-times.result c.from_residual-in_err-times.ensures.1 in
    let bad = group_among (CodeOf Network ∷ CodeOf Station ∷ Required Latitude ∷ Required Longitude ∷ Required Measure ∷ Words ∷ []) (Time ∷ End ∷ []) [] 2 (some_from fields 0 6) (some_from fields 6 2) (some_from fields 8 0)
    (code c.in_ok-network.network ∷ code c.in_ok-station.station ∷ number_value c.in_ok-position.position.latitude ∷ number_value c.in_ok-position.position.longitude ∷ number_value c.in_ok-position.position.elevation ∷ words c.in_ok-site.site ∷ []) c.in_err-times.field-0.0 (c.in_ok-network.ensures.value, (c.in_ok-station.ensures.value, (c.in_ok-position.ensures.value.0, (c.in_ok-position.ensures.value.1.0, (c.in_ok-position.ensures.value.1.1.0, (c.in_ok-site.ensures.value, tt)))))) c.in_err-times.ensures.refused in
    rw (p.1, p.2) (refused_behind (Says Sta) fields c.in_err-times.field-0.0 count bad)

pub returns-then-not-is_in_order-clause-refused : goal.returns-then-not-is_in_order-clause-refused
returns-then-not-is_in_order-clause-refused c =
    let fields = c.args.fields.now in
    let count : length c.args.fields.now ≡ 8 = omega (arith, c.in-len8.len_at_least, c.in-len8.len_below) in
    backward_behind (Says Sta) fields
    (code c.in_ok-network.network ∷ code c.in_ok-station.station ∷ number_value c.in_ok-position.position.latitude ∷ number_value c.in_ok-position.position.longitude ∷ number_value c.in_ok-position.position.elevation ∷ words c.in_ok-site.site ∷ time_value c.in_ok-times.times.start ∷ end_value c.in_ok-times.times.end ∷ [])
    count (c.in_ok-network.ensures.value, (c.in_ok-station.ensures.value, (c.in_ok-position.ensures.value.0, (c.in_ok-position.ensures.value.1.0, (c.in_ok-position.ensures.value.1.1.0, (c.in_ok-site.ensures.value, (c.in_ok-times.ensures.value.0, (c.in_ok-times.ensures.value.1.0, tt)))))))) (search rules)

pub invariant_of-result : goal.invariant_of-result
invariant_of-result c =
    let fields = c.args.fields.now in
    record {
      spellable = spellable_behind (Says Sta) fields
          (code c.in_ok-network.network ∷ code c.in_ok-station.station ∷ number_value c.in_ok-position.position.latitude ∷ number_value c.in_ok-position.position.longitude ∷ number_value c.in_ok-position.position.elevation ∷ words c.in_ok-site.site ∷ time_value c.in_ok-times.times.start ∷ end_value c.in_ok-times.times.end ∷ [])
          (c.in_ok-network.ensures.value, (c.in_ok-station.ensures.value, (c.in_ok-position.ensures.value.0, (c.in_ok-position.ensures.value.1.0, (c.in_ok-position.ensures.value.1.1.0, (c.in_ok-site.ensures.value, (c.in_ok-times.ensures.value.0, (c.in_ok-times.ensures.value.1.0, tt)))))))) (c.is_in_order.ensures.0 c.if-not-is_in_order.false);
    }

pub returns-clause-value : goal.returns-clause-value
returns-clause-value c =
    let fields = c.args.fields.now in
    let count : length c.args.fields.now ≡ 8 = omega (arith, c.in-len8.len_at_least, c.in-len8.len_below) in
    spelled_behind (Says Sta) fields
    (code c.in_ok-network.network ∷ code c.in_ok-station.station ∷ number_value c.in_ok-position.position.latitude ∷ number_value c.in_ok-position.position.longitude ∷ number_value c.in_ok-position.position.elevation ∷ words c.in_ok-site.site ∷ time_value c.in_ok-times.times.start ∷ end_value c.in_ok-times.times.end ∷ [])
    count (c.in_ok-network.ensures.value, (c.in_ok-station.ensures.value, (c.in_ok-position.ensures.value.0, (c.in_ok-position.ensures.value.1.0, (c.in_ok-position.ensures.value.1.1.0, (c.in_ok-site.ensures.value, (c.in_ok-times.ensures.value.0, (c.in_ok-times.ensures.value.1.0, tt)))))))) (c.is_in_order.ensures.0 c.if-not-is_in_order.false)
