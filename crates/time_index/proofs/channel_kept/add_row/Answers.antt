use Rattle.std.proofs.Common.{rules, sym, Result, Ok, Err, OnErr}
use Rattle.time_index.proofs.KeptStep.{all_grown, all_same, puts_row}
use Rattle.time_index.proofs.channel_kept.add_row.Goals as goal

on_error : {T E P : Type 0} (r : Result T E) → P → OnErr r P
on_error (Ok v) p = tt
on_error (Err e) p = p

pub returns-in-Some-clause-ok : goal.returns-in-Some-clause-ok
returns-in-Some-clause-ok c = λ rows all known.
    let row = c.args.row.now in
    let new = c.add_span.new.kinds in
    all_grown c.args.channels.now (c.get_mut.follows.lender new) row c.in-Some.kinds.now new (((c.get_mut.follows.holds new).3 (search rules)).0) rows all
    (all row.header.name c.in-Some.kinds.now (sym c.in-Some.ensures.value))
    (puts_row row c.in-Some.kinds.now new c.kind_of.result c.kept_of.result c.kind_of.ensures c.kept_of.ensures c.in_ok-add_span.ensures.ok)

pub returns-in_err-add_span-clause-err : goal.returns-in_err-add_span-clause-err
returns-in_err-add_span-clause-err c =
    let row = c.args.row.now in
    let new = c.add_span.new.kinds in
    on_error c.from_residual.result (λ rows all.
    all_same c.args.channels.now (c.get_mut.follows.lender new) row new (((c.get_mut.follows.holds new).3 (search rules)).0) rows c.in-Some.kinds.now (sym c.in-Some.ensures.value) c.in_err-add_span.ensures.err all)
