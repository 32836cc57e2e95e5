use Rattle.std.proofs.Common.{rules, ◌≡◌, sym, subst, Option, Some, Result, Ok, Err, OnErr, Ordering}
use Rattle.std.specs.BTreeMap.{BTreeMap, get}
use Rattle.exact_time.specs.declared.moment.Moment.{Moment}
use Rattle.list_laws.specs.Mending.{AreSpread}
use Rattle.time_index.specs.declared.kept.Kept.{Kept}
use Rattle.time_index.specs.declared.kind.Kind.{Kind}
use Rattle.time_index.specs.Kept.{from, upto, entries_or}
use Rattle.time_index.proofs.KeptKinds.{kind_same, span_put, spans_same}
use Rattle.time_index.proofs.kinds.add_span.Goals as goal

on_error : {T E P : Type 0} (r : Result T E) → P → OnErr r P
on_error (Ok v) p = tt
on_error (Err e) p = p

pub mend-requires-clause-spread : goal.mend-requires-clause-spread
mend-requires-clause-spread c =
    subst (λ (o : Option (BTreeMap Moment Kept)). AreSpread from upto (entries_or o))
    (subst (λ (cmp : Kind → Kind → Ordering). get cmp c.args.kinds.now c.args.kind ≡ Some c.in-Some.spans.now) kind_same (sym c.in-Some.ensures.value))
    (c.requires.spread c.args.kind)

pub returns-in-Some-clause-ok : goal.returns-in-Some-clause-ok
returns-in-Some-clause-ok c =
    span_put c.args.kinds.now (c.get_mut.follows.lender c.mend.new.spans) c.args.kind (Some c.in-Some.spans.now) c.mend.new.spans
    (subst (λ (cmp : Kind → Kind → Ordering). get cmp c.args.kinds.now c.args.kind ≡ Some c.in-Some.spans.now) kind_same (sym c.in-Some.ensures.value))
    (((c.get_mut.follows.holds c.mend.new.spans).3 (search rules)).0) (c.args.start, c.args.kept) c.in_ok-mend.ensures.ok

pub returns-in_err-mend-clause-err : goal.returns-in_err-mend-clause-err
returns-in_err-mend-clause-err c =
    on_error c.from_residual.result
    (spans_same c.args.kinds.now (c.get_mut.follows.lender c.mend.new.spans) c.args.kind (Some c.in-Some.spans.now) c.mend.new.spans
    (subst (λ (cmp : Kind → Kind → Ordering). get cmp c.args.kinds.now c.args.kind ≡ Some c.in-Some.spans.now) kind_same (sym c.in-Some.ensures.value))
    (((c.get_mut.follows.holds c.mend.new.spans).3 (search rules)).0) c.in_err-mend.ensures.err)
