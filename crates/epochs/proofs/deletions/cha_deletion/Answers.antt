use Rattle.std.proofs.Common.{arith, ◌≡◌, ◌∷◌, [], length}
use Rattle.std.proofs.lemmas.Result.{err_from_is_err_and}
use Rattle.channel_globs.specs.declared.nslc.Part.TheVariants.{Network, Station, Location, Channel}
use Rattle.epochs.specs.declared.kinds.LineKind.TheVariants.{Cha}
use Rattle.epochs.specs.declared.kinds.Head.TheVariants.{Deletes}
use Rattle.epochs.specs.Kinds.{CodeOf, Time}
use Rattle.epochs.specs.Fields.{code}
use Rattle.epochs.specs.Values.{time_value}
use Rattle.epochs.proofs.LadderSteps.{spellable_behind, field_among, group_among, refused_behind, some_from, spelled_behind, text_at}
use Rattle.epochs.proofs.deletions.cha_deletion.Goals as goal

pub returns-in_err-start-clause-refused : goal.returns-in_err-start-clause-refused
returns-in_err-start-clause-refused c =
    let fields = c.args.fields.now in
    let count : length c.args.fields.now ≡ 5 = omega (arith, c.in-len5.len_at_least, c.in-len5.len_below) in
    let p = err_from_is_err_and c.from_residual-in_err-start.result c.from_residual-in_err-start.ensures.1 in
    let bad = field_among (CodeOf Network ∷ CodeOf Station ∷ CodeOf Location ∷ CodeOf Channel ∷ []) Time [] 3 (some_from fields 0 4) (text_at fields 4) (some_from fields 5 0)
    (code c.in_ok-name.name.network ∷ code c.in_ok-name.name.station ∷ code c.in_ok-name.name.location ∷ code c.in_ok-name.name.channel ∷ []) c.in_err-start.field-0.0 (c.in_ok-name.ensures.value.0, (c.in_ok-name.ensures.value.1.0, (c.in_ok-name.ensures.value.1.1.0, (c.in_ok-name.ensures.value.1.1.1.0, tt)))) c.in_err-start.ensures.refused in
    rw (p.1, p.2) (refused_behind (Deletes Cha) fields c.in_err-start.field-0.0 count bad)

pub invariant_of-result : goal.invariant_of-result
invariant_of-result c =
    let fields = c.args.fields.now in
    record {
      spellable = spellable_behind (Deletes Cha) fields
          (code c.in_ok-name.name.network ∷ code c.in_ok-name.name.station ∷ code c.in_ok-name.name.location ∷ code c.in_ok-name.name.channel ∷ time_value c.in_ok-start.start ∷ [])
          (c.in_ok-name.ensures.value.0, (c.in_ok-name.ensures.value.1.0, (c.in_ok-name.ensures.value.1.1.0, (c.in_ok-name.ensures.value.1.1.1.0, (c.in_ok-start.ensures.value, tt))))) tt;
    }

pub returns-clause-value : goal.returns-clause-value
returns-clause-value c =
    let fields = c.args.fields.now in
    let count : length c.args.fields.now ≡ 5 = omega (arith, c.in-len5.len_at_least, c.in-len5.len_below) in
    spelled_behind (Deletes Cha) fields
    (code c.in_ok-name.name.network ∷ code c.in_ok-name.name.station ∷ code c.in_ok-name.name.location ∷ code c.in_ok-name.name.channel ∷ time_value c.in_ok-start.start ∷ [])
    count (c.in_ok-name.ensures.value.0, (c.in_ok-name.ensures.value.1.0, (c.in_ok-name.ensures.value.1.1.0, (c.in_ok-name.ensures.value.1.1.1.0, (c.in_ok-start.ensures.value, tt))))) tt

pub returns-in_err-name-clause-refused : goal.returns-in_err-name-clause-refused
returns-in_err-name-clause-refused c =
    let fields = c.args.fields.now in
    let count : length c.args.fields.now ≡ 5 = omega (arith, c.in-len5.len_at_least, c.in-len5.len_below) in
    let p = err_from_is_err_and c.from_residual.result c.from_residual.ensures.1 in
    let bad = group_among [] (CodeOf Network ∷ CodeOf Station ∷ CodeOf Location ∷ CodeOf Channel ∷ []) (Time ∷ []) 3 [] (some_from fields 0 4) (some_from fields 4 1)
    [] c.in_err-name.field-0.0 tt c.in_err-name.ensures.refused in
    rw (p.1, p.2) (refused_behind (Deletes Cha) fields c.in_err-name.field-0.0 count bad)
