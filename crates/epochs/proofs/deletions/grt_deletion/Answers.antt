use Rattle.std.proofs.Common.{arith, ◌≡◌, ◌∷◌, [], length}
use Rattle.std.proofs.lemmas.Result.{err_from_is_err_and}
use Rattle.channel_globs.specs.declared.nslc.Part.TheVariants.{Network, Station, Location, Channel}
use Rattle.epochs.specs.declared.kinds.LineKind.TheVariants.{Grt}
use Rattle.epochs.specs.declared.kinds.Head.TheVariants.{Deletes}
use Rattle.epochs.specs.Kinds.{Time, PatternsOf, UserName}
use Rattle.epochs.specs.Fields.{words}
use Rattle.epochs.specs.Values.{glob_value, time_value}
use Rattle.epochs.proofs.LadderSteps.{spellable_behind, field_among, group_among, refused_behind, some_from, spelled_behind, text_at}
use Rattle.epochs.proofs.deletions.grt_deletion.Goals as goal

pub returns-in_err-channels-clause-refused : goal.returns-in_err-channels-clause-refused
returns-in_err-channels-clause-refused c =
    let fields = c.args.fields.now in
    let count : length c.args.fields.now ≡ 6 = omega (arith, c.in-len6.len_at_least, c.in-len6.len_below) in
    let p = err_from_is_err_and c.from_residual-in_err-channels.result c.from_residual-in_err-channels.ensures.1 in
    let bad = group_among (UserName ∷ []) (PatternsOf Network ∷ PatternsOf Station ∷ PatternsOf Location ∷ PatternsOf Channel ∷ []) (Time ∷ []) 3 (some_from fields 0 1) (some_from fields 1 4) (some_from fields 5 1)
    (words c.in_ok-user.user ∷ []) c.in_err-channels.field-0.0 (c.in_ok-user.ensures.value, tt) c.in_err-channels.ensures.refused in
    rw (p.1, p.2) (refused_behind (Deletes Grt) fields c.in_err-channels.field-0.0 count bad)

pub returns-in_err-start-clause-refused : goal.returns-in_err-start-clause-refused
returns-in_err-start-clause-refused c =
    let fields = c.args.fields.now in
    let count : length c.args.fields.now ≡ 6 = omega (arith, c.in-len6.len_at_least, c.in-len6.len_below) in
    let p = err_from_is_err_and c.from_residual-in_err-start.result c.from_residual-in_err-start.ensures.1 in
    let bad = field_among (UserName ∷ PatternsOf Network ∷ PatternsOf Station ∷ PatternsOf Location ∷ PatternsOf Channel ∷ []) Time [] 3 (some_from fields 0 5) (text_at fields 5) (some_from fields 6 0)
    (words c.in_ok-user.user ∷ glob_value c.in_ok-channels.channels.network ∷ glob_value c.in_ok-channels.channels.station ∷ glob_value c.in_ok-channels.channels.location ∷ glob_value c.in_ok-channels.channels.channel ∷ []) c.in_err-start.field-0.0 (c.in_ok-user.ensures.value, (c.in_ok-channels.ensures.value.0, (c.in_ok-channels.ensures.value.1.0, (c.in_ok-channels.ensures.value.1.1.0, (c.in_ok-channels.ensures.value.1.1.1.0, tt))))) c.in_err-start.ensures.refused in
    rw (p.1, p.2) (refused_behind (Deletes Grt) fields c.in_err-start.field-0.0 count bad)

pub invariant_of-result : goal.invariant_of-result
invariant_of-result c =
    let fields = c.args.fields.now in
    record {
      spellable = spellable_behind (Deletes Grt) fields
          (words c.in_ok-user.user ∷ glob_value c.in_ok-channels.channels.network ∷ glob_value c.in_ok-channels.channels.station ∷ glob_value c.in_ok-channels.channels.location ∷ glob_value c.in_ok-channels.channels.channel ∷ time_value c.in_ok-start.start ∷ [])
          (c.in_ok-user.ensures.value, (c.in_ok-channels.ensures.value.0, (c.in_ok-channels.ensures.value.1.0, (c.in_ok-channels.ensures.value.1.1.0, (c.in_ok-channels.ensures.value.1.1.1.0, (c.in_ok-start.ensures.value, tt)))))) tt;
    }

pub returns-clause-value : goal.returns-clause-value
returns-clause-value c =
    let fields = c.args.fields.now in
    let count : length c.args.fields.now ≡ 6 = omega (arith, c.in-len6.len_at_least, c.in-len6.len_below) in
    spelled_behind (Deletes Grt) fields
    (words c.in_ok-user.user ∷ glob_value c.in_ok-channels.channels.network ∷ glob_value c.in_ok-channels.channels.station ∷ glob_value c.in_ok-channels.channels.location ∷ glob_value c.in_ok-channels.channels.channel ∷ time_value c.in_ok-start.start ∷ [])
    count (c.in_ok-user.ensures.value, (c.in_ok-channels.ensures.value.0, (c.in_ok-channels.ensures.value.1.0, (c.in_ok-channels.ensures.value.1.1.0, (c.in_ok-channels.ensures.value.1.1.1.0, (c.in_ok-start.ensures.value, tt)))))) tt
