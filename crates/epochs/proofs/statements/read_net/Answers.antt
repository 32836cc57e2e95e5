use Rattle.std.proofs.Common.{rules, arith, ◌≡◌, ◌∷◌, [], length}
use Rattle.std.proofs.lemmas.Result.{err_from_is_err_and}
use Rattle.channel_globs.specs.declared.nslc.Part.TheVariants.{Network}
use Rattle.epochs.specs.declared.kinds.LineKind.TheVariants.{Net}
use Rattle.epochs.specs.declared.kinds.Head.TheVariants.{Says}
use Rattle.epochs.specs.Kinds.{CodeOf, Words, Time, End}
use Rattle.epochs.specs.Fields.{code, words}
use Rattle.epochs.specs.Values.{time_value, end_value}
use Rattle.epochs.proofs.LadderSteps.{backward_behind, spellable_behind, field_among, group_among, refused_behind, some_from, spelled_behind, text_at}
use Rattle.epochs.proofs.statements.read_net.Goals as goal

pub returns-in_err-description-clause-refused : goal.returns-in_err-description-clause-refused
returns-in_err-description-clause-refused c =
    let fields = c.args.fields.now in
    let count : length c.args.fields.now ≡ 4 = omega (arith, c.in-len4.len_at_least, c.in-len4.len_below) in
    let p = err_from_is_err_and c.from_residual-in_err-description.result c.from_residual-in_err-description.ensures.1 in
    let bad = field_among (CodeOf Network ∷ []) Words (Time ∷ End ∷ []) 2 (some_from fields 0 1) (text_at fields 1) (some_from fields 2 2)
    (code c.in_ok-network.network ∷ []) c.in_err-description.field-0.0 (c.in_ok-network.ensures.value, tt) c.in_err-description.ensures.refused in
    rw (p.1, p.2) (refused_behind (Says Net) fields c.in_err-description.field-0.0 count bad)

pub returns-in_err-times-clause-refused : goal.returns-in_err-times-clause-refused
returns-in_err-times-clause-refused c =
    let fields = c.args.fields.now in
    let count : length c.args.fields.now ≡ 4 = omega (arith, c.in-len4.len_at_least, c.in-len4.len_below) in
    let p = err_from_is_err_and c.from_residual-in_err-times.result c.from_residual-in_err-times.ensures.1 in
    let bad = group_among (CodeOf Network ∷ Words ∷ []) (Time ∷ End ∷ []) [] 2 (some_from fields 0 2) (some_from fields 2 2) (some_from fields 4 0)
    (code c.in_ok-network.network ∷ words c.in_ok-description.description ∷ []) c.in_err-times.field-0.0 (c.in_ok-network.ensures.value, (c.in_ok-description.ensures.value, tt)) c.in_err-times.ensures.refused in
    rw (p.1, p.2) (refused_behind (Says Net) fields c.in_err-times.field-0.0 count bad)

pub returns-then-not-is_in_order-clause-refused : goal.returns-then-not-is_in_order-clause-refused
returns-then-not-is_in_order-clause-refused c =
    let fields = c.args.fields.now in
    let count : length c.args.fields.now ≡ 4 = omega (arith, c.in-len4.len_at_least, c.in-len4.len_below) in
    backward_behind (Says Net) fields
    (code c.in_ok-network.network ∷ words c.in_ok-description.description ∷ time_value c.in_ok-times.times.start ∷ end_value c.in_ok-times.times.end ∷ [])
    count (c.in_ok-network.ensures.value, (c.in_ok-description.ensures.value, (c.in_ok-times.ensures.value.0, (c.in_ok-times.ensures.value.1.0, tt)))) (search rules)

pub invariant_of-result : goal.invariant_of-result
invariant_of-result c =
    let fields = c.args.fields.now in
    record {
      spellable = spellable_behind (Says Net) fields
          (code c.in_ok-network.network ∷ words c.in_ok-description.description ∷ time_value c.in_ok-times.times.start ∷ end_value c.in_ok-times.times.end ∷ [])
          (c.in_ok-network.ensures.value, (c.in_ok-description.ensures.value, (c.in_ok-times.ensures.value.0, (c.in_ok-times.ensures.value.1.0, tt)))) (c.is_in_order.ensures.0 c.if-not-is_in_order.false);
    }

pub returns-clause-value : goal.returns-clause-value
returns-clause-value c =
    let fields = c.args.fields.now in
    let count : length c.args.fields.now ≡ 4 = omega (arith, c.in-len4.len_at_least, c.in-len4.len_below) in
    spelled_behind (Says Net) fields
    (code c.in_ok-network.network ∷ words c.in_ok-description.description ∷ time_value c.in_ok-times.times.start ∷ end_value c.in_ok-times.times.end ∷ [])
    count (c.in_ok-network.ensures.value, (c.in_ok-description.ensures.value, (c.in_ok-times.ensures.value.0, (c.in_ok-times.ensures.value.1.0, tt)))) (c.is_in_order.ensures.0 c.if-not-is_in_order.false)
