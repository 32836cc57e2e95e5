use Rattle.std.proofs.Common.{arith, ◌≡◌, ◌∷◌, [], length}
use Rattle.std.proofs.lemmas.Result.{err_from_is_err_and}
use Rattle.channel_globs.specs.declared.nslc.Part.TheVariants.{Network, Station, Location, Channel}
use Rattle.epochs.specs.declared.kinds.LineKind.TheVariants.{Rst}
use Rattle.epochs.specs.declared.kinds.Head.TheVariants.{Deletes}
use Rattle.epochs.specs.Kinds.{Time, PatternsOf}
use Rattle.epochs.specs.Values.{glob_value, time_value}
use Rattle.epochs.proofs.LadderSteps.{spellable_behind, field_among, refused_behind, some_from, spelled_behind, text_at}
use Rattle.epochs.proofs.deletions.rst_deletion.Goals as goal

pub returns-in_err-start-clause-refused : goal.returns-in_err-start-clause-refused
returns-in_err-start-clause-refused c =
    let fields = c.args.fields.now in
    let count : length c.args.fields.now ≡ 5 = omega (arith, c.in-len5.len_at_least, c.in-len5.len_below) in
    let p = err_from_is_err_and c.from_residual-in_err-start.result c.from_residual-in_err-start.ensures.1 in
    let bad = field_among (PatternsOf Network ∷ PatternsOf Station ∷ PatternsOf Location ∷ PatternsOf Channel ∷ []) Time [] 3 (some_from fields 0 4) (text_at fields 4) (some_from fields 5 0)
    (glob_value c.in_ok-channels.channels.network ∷ glob_value c.in_ok-channels.channels.station ∷ glob_value c.in_ok-channels.channels.location ∷ glob_value c.in_ok-channels.channels.channel ∷ []) c.in_err-start.field-0.0 (c.in_ok-channels.ensures.value.0, (c.in_ok-channels.ensures.value.1.0, (c.in_ok-channels.ensures.value.1.1.0, (c.in_ok-channels.ensures.value.1.1.1.0, tt)))) c.in_err-start.ensures.refused in
    rw (p.1, p.2) (refused_behind (Deletes Rst) fields c.in_err-start.field-0.0 count bad)

pub invariant_of-result : goal.invariant_of-result
invariant_of-result c =
    let fields = c.args.fields.now in
    record {
      spellable = spellable_behind (Deletes Rst) fields
          (glob_value c.in_ok-channels.channels.network ∷ glob_value c.in_ok-channels.channels.station ∷ glob_value c.in_ok-channels.channels.location ∷ glob_value c.in_ok-channels.channels.channel ∷ time_value c.in_ok-start.start ∷ [])
          (c.in_ok-channels.ensures.value.0, (c.in_ok-channels.ensures.value.1.0, (c.in_ok-channels.ensures.value.1.1.0, (c.in_ok-channels.ensures.value.1.1.1.0, (c.in_ok-start.ensures.value, tt))))) tt;
    }

pub returns-clause-value : goal.returns-clause-value
returns-clause-value c =
    let fields = c.args.fields.now in
    let count : length c.args.fields.now ≡ 5 = omega (arith, c.in-len5.len_at_least, c.in-len5.len_below) in
    spelled_behind (Deletes Rst) fields
    (glob_value c.in_ok-channels.channels.network ∷ glob_value c.in_ok-channels.channels.station ∷ glob_value c.in_ok-channels.channels.location ∷ glob_value c.in_ok-channels.channels.channel ∷ time_value c.in_ok-start.start ∷ [])
    count (c.in_ok-channels.ensures.value.0, (c.in_ok-channels.ensures.value.1.0, (c.in_ok-channels.ensures.value.1.1.0, (c.in_ok-channels.ensures.value.1.1.1.0, (c.in_ok-start.ensures.value, tt))))) tt
