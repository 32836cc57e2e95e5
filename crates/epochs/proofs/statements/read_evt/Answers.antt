use Rattle.std.proofs.Common.{arith, ◌≡◌, ◌∷◌, [], length}
use Rattle.std.proofs.lemmas.Result.{err_from_is_err_and}
use Rattle.epochs.specs.declared.quantity.Quantity.TheVariants.{Latitude, Longitude, Measure}
use Rattle.epochs.specs.declared.kinds.LineKind.TheVariants.{Evt}
use Rattle.epochs.specs.declared.kinds.Head.TheVariants.{Says}
use Rattle.epochs.specs.Kinds.{Words, Time, Required, Optional, EventId}
use Rattle.epochs.specs.Fields.{words}
use Rattle.epochs.specs.Values.{time_value, number_value, optional_value}
use Rattle.epochs.proofs.LadderSteps.{spellable_behind, group_among, refused_behind, some_from, spelled_behind}
use Rattle.epochs.proofs.statements.read_evt.Goals as goal

pub returns-in_err-hypocentre-clause-refused : goal.returns-in_err-hypocentre-clause-refused
returns-in_err-hypocentre-clause-refused c =
    let fields = c.args.fields.now in
    let count : length c.args.fields.now ≡ 13 = omega (arith, c.in-len13.len_at_least, c.in-len13.len_below) in
    let p = err_from_is_err_and c.from_residual-in_err-hypocentre.result c.from_residual-in_err-hypocentre.ensures.1 in
    let bad = group_among (EventId ∷ Time ∷ []) (Required Latitude ∷ Required Longitude ∷ Optional Measure ∷ []) (Words ∷ Words ∷ Words ∷ Words ∷ Words ∷ Optional Measure ∷ Words ∷ Words ∷ []) 2 (some_from fields 0 2) (some_from fields 2 3) (some_from fields 5 8)
    (words c.in_ok-id.id ∷ time_value c.in_ok-id.time ∷ []) c.in_err-hypocentre.field-0.0 (c.in_ok-id.ensures.value.0, (c.in_ok-id.ensures.value.1.0, tt)) c.in_err-hypocentre.ensures.refused in
    rw (p.1, p.2) (refused_behind (Says Evt) fields c.in_err-hypocentre.field-0.0 count bad)

pub returns-in_err-attribution-clause-refused : goal.returns-in_err-attribution-clause-refused
returns-in_err-attribution-clause-refused c =
    let fields = c.args.fields.now in
    let count : length c.args.fields.now ≡ 13 = omega (arith, c.in-len13.len_at_least, c.in-len13.len_below) in
    let p = err_from_is_err_and c.from_residual-in_err-attribution.result c.from_residual-in_err-attribution.ensures.1 in
    let bad = group_among (EventId ∷ Time ∷ Required Latitude ∷ Required Longitude ∷ Optional Measure ∷ []) (Words ∷ Words ∷ Words ∷ Words ∷ []) (Words ∷ Optional Measure ∷ Words ∷ Words ∷ []) 2 (some_from fields 0 5) (some_from fields 5 4) (some_from fields 9 4)
    (words c.in_ok-id.id ∷ time_value c.in_ok-id.time ∷ number_value c.in_ok-hypocentre.hypocentre.latitude ∷ number_value c.in_ok-hypocentre.hypocentre.longitude ∷ optional_value c.in_ok-hypocentre.hypocentre.depth ∷ []) c.in_err-attribution.field-0.0 (c.in_ok-id.ensures.value.0, (c.in_ok-id.ensures.value.1.0, (c.in_ok-hypocentre.ensures.value.0, (c.in_ok-hypocentre.ensures.value.1.0, (c.in_ok-hypocentre.ensures.value.1.1.0, tt))))) c.in_err-attribution.ensures.refused in
    rw (p.1, p.2) (refused_behind (Says Evt) fields c.in_err-attribution.field-0.0 count bad)

pub returns-in_err-magnitude-clause-refused : goal.returns-in_err-magnitude-clause-refused
returns-in_err-magnitude-clause-refused c =
    let fields = c.args.fields.now in
    let count : length c.args.fields.now ≡ 13 = omega (arith, c.in-len13.len_at_least, c.in-len13.len_below) in
    let p = err_from_is_err_and c.from_residual-in_err-magnitude.result c.from_residual-in_err-magnitude.ensures.1 in
    let bad = group_among (EventId ∷ Time ∷ Required Latitude ∷ Required Longitude ∷ Optional Measure ∷ Words ∷ Words ∷ Words ∷ Words ∷ []) (Words ∷ Optional Measure ∷ Words ∷ Words ∷ []) [] 2 (some_from fields 0 9) (some_from fields 9 4) (some_from fields 13 0)
    (words c.in_ok-id.id ∷ time_value c.in_ok-id.time ∷ number_value c.in_ok-hypocentre.hypocentre.latitude ∷ number_value c.in_ok-hypocentre.hypocentre.longitude ∷ optional_value c.in_ok-hypocentre.hypocentre.depth ∷ words c.in_ok-attribution.attribution.author ∷ words c.in_ok-attribution.attribution.catalog ∷ words c.in_ok-attribution.attribution.contributor ∷ words c.in_ok-attribution.attribution.contributor_id ∷ []) c.in_err-magnitude.field-0.0 (c.in_ok-id.ensures.value.0, (c.in_ok-id.ensures.value.1.0, (c.in_ok-hypocentre.ensures.value.0, (c.in_ok-hypocentre.ensures.value.1.0, (c.in_ok-hypocentre.ensures.value.1.1.0, (c.in_ok-attribution.ensures.value.0, (c.in_ok-attribution.ensures.value.1.0, (c.in_ok-attribution.ensures.value.1.1.0, (c.in_ok-attribution.ensures.value.1.1.1.0, tt))))))))) c.in_err-magnitude.ensures.refused in
    rw (p.1, p.2) (refused_behind (Says Evt) fields c.in_err-magnitude.field-0.0 count bad)

pub invariant_of-result : goal.invariant_of-result
invariant_of-result c =
    let fields = c.args.fields.now in
    record {
      spellable = spellable_behind (Says Evt) fields
          (words c.in_ok-id.id ∷ time_value c.in_ok-id.time ∷ number_value c.in_ok-hypocentre.hypocentre.latitude ∷ number_value c.in_ok-hypocentre.hypocentre.longitude ∷ optional_value c.in_ok-hypocentre.hypocentre.depth ∷ words c.in_ok-attribution.attribution.author ∷ words c.in_ok-attribution.attribution.catalog ∷ words c.in_ok-attribution.attribution.contributor ∷ words c.in_ok-attribution.attribution.contributor_id ∷ words c.in_ok-magnitude.magnitude.kind ∷ optional_value c.in_ok-magnitude.magnitude.magnitude ∷ words c.in_ok-magnitude.magnitude.author ∷ words c.in_ok-magnitude.magnitude.location ∷ [])
          (c.in_ok-id.ensures.value.0, (c.in_ok-id.ensures.value.1.0, (c.in_ok-hypocentre.ensures.value.0, (c.in_ok-hypocentre.ensures.value.1.0, (c.in_ok-hypocentre.ensures.value.1.1.0, (c.in_ok-attribution.ensures.value.0, (c.in_ok-attribution.ensures.value.1.0, (c.in_ok-attribution.ensures.value.1.1.0, (c.in_ok-attribution.ensures.value.1.1.1.0, (c.in_ok-magnitude.ensures.value.0, (c.in_ok-magnitude.ensures.value.1.0, (c.in_ok-magnitude.ensures.value.1.1.0, (c.in_ok-magnitude.ensures.value.1.1.1.0, tt))))))))))))) tt;
    }

pub returns-clause-value : goal.returns-clause-value
returns-clause-value c =
    let fields = c.args.fields.now in
    let count : length c.args.fields.now ≡ 13 = omega (arith, c.in-len13.len_at_least, c.in-len13.len_below) in
    spelled_behind (Says Evt) fields
    (words c.in_ok-id.id ∷ time_value c.in_ok-id.time ∷ number_value c.in_ok-hypocentre.hypocentre.latitude ∷ number_value c.in_ok-hypocentre.hypocentre.longitude ∷ optional_value c.in_ok-hypocentre.hypocentre.depth ∷ words c.in_ok-attribution.attribution.author ∷ words c.in_ok-attribution.attribution.catalog ∷ words c.in_ok-attribution.attribution.contributor ∷ words c.in_ok-attribution.attribution.contributor_id ∷ words c.in_ok-magnitude.magnitude.kind ∷ optional_value c.in_ok-magnitude.magnitude.magnitude ∷ words c.in_ok-magnitude.magnitude.author ∷ words c.in_ok-magnitude.magnitude.location ∷ [])
    count (c.in_ok-id.ensures.value.0, (c.in_ok-id.ensures.value.1.0, (c.in_ok-hypocentre.ensures.value.0, (c.in_ok-hypocentre.ensures.value.1.0, (c.in_ok-hypocentre.ensures.value.1.1.0, (c.in_ok-attribution.ensures.value.0, (c.in_ok-attribution.ensures.value.1.0, (c.in_ok-attribution.ensures.value.1.1.0, (c.in_ok-attribution.ensures.value.1.1.1.0, (c.in_ok-magnitude.ensures.value.0, (c.in_ok-magnitude.ensures.value.1.0, (c.in_ok-magnitude.ensures.value.1.1.0, (c.in_ok-magnitude.ensures.value.1.1.1.0, tt))))))))))))) tt
