use Rattle.std.proofs.Common.{rules, arith, ◌≡◌, ◌∷◌, [], length}
use Rattle.std.proofs.lemmas.Result.{err_from_is_err_and}
use Rattle.channel_globs.specs.declared.nslc.Part.TheVariants.{Network, Station, Location, Channel}
use Rattle.epochs.specs.declared.kinds.LineKind.TheVariants.{Wdr}
use Rattle.epochs.specs.declared.kinds.Head.TheVariants.{Says}
use Rattle.epochs.specs.Kinds.{Time, End, PatternsOf, EntryNumber}
use Rattle.epochs.specs.Fields.{entry_number}
use Rattle.epochs.specs.Values.{glob_value, time_value, end_value}
use Rattle.epochs.proofs.LadderSteps.{backward_behind, spellable_behind, field_among, group_among, refused_behind, some_from, spelled_behind, text_at}
use Rattle.epochs.proofs.statements.read_wdr.Goals as goal

pub returns-in_err-times-clause-refused : goal.returns-in_err-times-clause-refused
returns-in_err-times-clause-refused c =
    let fields = c.args.fields.now in
    let count : length c.args.fields.now ≡ 7 = omega (arith, c.in-len7.len_at_least, c.in-len7.len_below) in
    let p = err_from_is_err_and c.from_residual-in_err-times.result c.from_residual-in_err-times.ensures.1 in
    let bad = group_among (PatternsOf Network ∷ PatternsOf Station ∷ PatternsOf Location ∷ PatternsOf Channel ∷ []) (Time ∷ End ∷ []) (EntryNumber ∷ []) 2 (some_from fields 0 4) (some_from fields 4 2) (some_from fields 6 1)
    (glob_value c.in_ok-channels.channels.network ∷ glob_value c.in_ok-channels.channels.station ∷ glob_value c.in_ok-channels.channels.location ∷ glob_value c.in_ok-channels.channels.channel ∷ []) c.in_err-times.field-0.0 (c.in_ok-channels.ensures.value.0, (c.in_ok-channels.ensures.value.1.0, (c.in_ok-channels.ensures.value.1.1.0, (c.in_ok-channels.ensures.value.1.1.1.0, tt)))) c.in_err-times.ensures.refused in
    rw (p.1, p.2) (refused_behind (Says Wdr) fields c.in_err-times.field-0.0 count bad)

pub returns-in_err-upto-clause-refused : goal.returns-in_err-upto-clause-refused
returns-in_err-upto-clause-refused c =
    let fields = c.args.fields.now in
    let count : length c.args.fields.now ≡ 7 = omega (arith, c.in-len7.len_at_least, c.in-len7.len_below) in
    let p = err_from_is_err_and c.from_residual-in_err-upto.result c.from_residual-in_err-upto.ensures.1 in
    let bad = field_among (PatternsOf Network ∷ PatternsOf Station ∷ PatternsOf Location ∷ PatternsOf Channel ∷ Time ∷ End ∷ []) EntryNumber [] 2 (some_from fields 0 6) (text_at fields 6) (some_from fields 7 0)
    (glob_value c.in_ok-channels.channels.network ∷ glob_value c.in_ok-channels.channels.station ∷ glob_value c.in_ok-channels.channels.location ∷ glob_value c.in_ok-channels.channels.channel ∷ time_value c.in_ok-times.times.start ∷ end_value c.in_ok-times.times.end ∷ []) c.in_err-upto.field-0.0 (c.in_ok-channels.ensures.value.0, (c.in_ok-channels.ensures.value.1.0, (c.in_ok-channels.ensures.value.1.1.0, (c.in_ok-channels.ensures.value.1.1.1.0, (c.in_ok-times.ensures.value.0, (c.in_ok-times.ensures.value.1.0, tt)))))) c.in_err-upto.ensures.refused in
    rw (p.1, p.2) (refused_behind (Says Wdr) fields c.in_err-upto.field-0.0 count bad)

pub returns-then-not-is_in_order-clause-refused : goal.returns-then-not-is_in_order-clause-refused
returns-then-not-is_in_order-clause-refused c =
    let fields = c.args.fields.now in
    let count : length c.args.fields.now ≡ 7 = omega (arith, c.in-len7.len_at_least, c.in-len7.len_below) in
    backward_behind (Says Wdr) fields
    (glob_value c.in_ok-channels.channels.network ∷ glob_value c.in_ok-channels.channels.station ∷ glob_value c.in_ok-channels.channels.location ∷ glob_value c.in_ok-channels.channels.channel ∷ time_value c.in_ok-times.times.start ∷ end_value c.in_ok-times.times.end ∷ entry_number c.in_ok-upto.upto ∷ [])
    count (c.in_ok-channels.ensures.value.0, (c.in_ok-channels.ensures.value.1.0, (c.in_ok-channels.ensures.value.1.1.0, (c.in_ok-channels.ensures.value.1.1.1.0, (c.in_ok-times.ensures.value.0, (c.in_ok-times.ensures.value.1.0, (c.in_ok-upto.ensures.value, tt))))))) (search rules)

pub invariant_of-result : goal.invariant_of-result
invariant_of-result c =
    let fields = c.args.fields.now in
    record {
      spellable = spellable_behind (Says Wdr) fields
          (glob_value c.in_ok-channels.channels.network ∷ glob_value c.in_ok-channels.channels.station ∷ glob_value c.in_ok-channels.channels.location ∷ glob_value c.in_ok-channels.channels.channel ∷ time_value c.in_ok-times.times.start ∷ end_value c.in_ok-times.times.end ∷ entry_number c.in_ok-upto.upto ∷ [])
          (c.in_ok-channels.ensures.value.0, (c.in_ok-channels.ensures.value.1.0, (c.in_ok-channels.ensures.value.1.1.0, (c.in_ok-channels.ensures.value.1.1.1.0, (c.in_ok-times.ensures.value.0, (c.in_ok-times.ensures.value.1.0, (c.in_ok-upto.ensures.value, tt))))))) (c.is_in_order.ensures.0 c.if-not-is_in_order.false);
    }

pub returns-clause-value : goal.returns-clause-value
returns-clause-value c =
    let fields = c.args.fields.now in
    let count : length c.args.fields.now ≡ 7 = omega (arith, c.in-len7.len_at_least, c.in-len7.len_below) in
    spelled_behind (Says Wdr) fields
    (glob_value c.in_ok-channels.channels.network ∷ glob_value c.in_ok-channels.channels.station ∷ glob_value c.in_ok-channels.channels.location ∷ glob_value c.in_ok-channels.channels.channel ∷ time_value c.in_ok-times.times.start ∷ end_value c.in_ok-times.times.end ∷ entry_number c.in_ok-upto.upto ∷ [])
    count (c.in_ok-channels.ensures.value.0, (c.in_ok-channels.ensures.value.1.0, (c.in_ok-channels.ensures.value.1.1.0, (c.in_ok-channels.ensures.value.1.1.1.0, (c.in_ok-times.ensures.value.0, (c.in_ok-times.ensures.value.1.0, (c.in_ok-upto.ensures.value, tt))))))) (c.is_in_order.ensures.0 c.if-not-is_in_order.false)
