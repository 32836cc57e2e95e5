use Rattle.std.proofs.Common.{arith, ◌≡◌, ◌∷◌, [], length}
use Rattle.std.proofs.lemmas.Result.{err_from_is_err_and}
use Rattle.channel_globs.specs.declared.nslc.Part.TheVariants.{Network, Station}
use Rattle.epochs.specs.declared.kinds.LineKind.TheVariants.{Sta}
use Rattle.epochs.specs.declared.kinds.Head.TheVariants.{Deletes}
use Rattle.epochs.specs.Kinds.{CodeOf, Time}
use Rattle.epochs.specs.Fields.{code}
use Rattle.epochs.specs.Values.{time_value}
use Rattle.epochs.proofs.LadderSteps.{spellable_behind, field_among, refused_behind, some_from, spelled_behind, text_at}
use Rattle.epochs.proofs.deletions.sta_deletion.Goals as goal

pub returns-in_err-station-clause-refused : goal.returns-in_err-station-clause-refused
returns-in_err-station-clause-refused c =
    let fields = c.args.fields.now in
    let count : length c.args.fields.now ≡ 3 = omega (arith, c.in-len3.len_at_least, c.in-len3.len_below) in
    let p = err_from_is_err_and c.from_residual-in_err-station.result c.from_residual-in_err-station.ensures.1 in
    let bad = field_among (CodeOf Network ∷ []) (CodeOf Station) (Time ∷ []) 3 (some_from fields 0 1) (text_at fields 1) (some_from fields 2 1)
    (code c.in_ok-network.network ∷ []) c.in_err-station.field-0.0 (c.in_ok-network.ensures.value, tt) c.in_err-station.ensures.refused in
    rw (p.1, p.2) (refused_behind (Deletes Sta) fields c.in_err-station.field-0.0 count bad)

pub returns-in_err-start-clause-refused : goal.returns-in_err-start-clause-refused
returns-in_err-start-clause-refused c =
    let fields = c.args.fields.now in
    let count : length c.args.fields.now ≡ 3 = omega (arith, c.in-len3.len_at_least, c.in-len3.len_below) in
    let p = err_from_is_err_and c.from_residual-in_err-start.result c.from_residual-in_err-start.ensures.1 in
    let bad = field_among (CodeOf Network ∷ CodeOf Station ∷ []) Time [] 3 (some_from fields 0 2) (text_at fields 2) (some_from fields 3 0)
    (code c.in_ok-network.network ∷ code c.in_ok-station.station ∷ []) c.in_err-start.field-0.0 (c.in_ok-network.ensures.value, (c.in_ok-station.ensures.value, tt)) c.in_err-start.ensures.refused in
    rw (p.1, p.2) (refused_behind (Deletes Sta) fields c.in_err-start.field-0.0 count bad)

pub invariant_of-result : goal.invariant_of-result
invariant_of-result c =
    let fields = c.args.fields.now in
    record {
      spellable = spellable_behind (Deletes Sta) fields
          (code c.in_ok-network.network ∷ code c.in_ok-station.station ∷ time_value c.in_ok-start.start ∷ [])
          (c.in_ok-network.ensures.value, (c.in_ok-station.ensures.value, (c.in_ok-start.ensures.value, tt))) tt;
    }

pub returns-clause-value : goal.returns-clause-value
returns-clause-value c =
    let fields = c.args.fields.now in
    let count : length c.args.fields.now ≡ 3 = omega (arith, c.in-len3.len_at_least, c.in-len3.len_below) in
    spelled_behind (Deletes Sta) fields
    (code c.in_ok-network.network ∷ code c.in_ok-station.station ∷ time_value c.in_ok-start.start ∷ [])
    count (c.in_ok-network.ensures.value, (c.in_ok-station.ensures.value, (c.in_ok-start.ensures.value, tt))) tt
