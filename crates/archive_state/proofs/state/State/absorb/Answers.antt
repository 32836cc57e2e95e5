use Rattle.std.proofs.Common.{◌∙◌, ap, sym, subst, arith, length}
use Rattle.std.specs.List.{AllByRecursion}
use Rattle.archive_entry.specs.Spelling.{IsEntry}
use Rattle.archive_entry.specs.declared.entry.Entry.{Entry}
use Rattle.archive_state.specs.History.{arrived_of, live_of}
use Rattle.archive_state.proofs.Absorbs.{absorbed_batch, absorbed_revision, absorbed_spelled, other_kind}
use Rattle.archive_state.proofs.state.State.absorb.Goals as goal

pub absorb_batch-requires-clause-short : goal.absorb_batch-requires-clause-short
absorb_batch-requires-clause-short c = omega (arith, c.requires.spelled.within, ap (λ (e : Entry). length e.body) c.in_ok-copy.ensures)

pub invariant_of-self-in-Batch : goal.invariant_of-self-in-Batch
invariant_of-self-in-Batch c =
    let all = subst (AllByRecursion IsEntry) (sym c.in_ok-reserve.ensures.items) c.self.invariant.2 in
    let is = subst IsEntry (sym c.in_ok-copy.ensures) c.requires.spelled in
    let held = absorbed_batch c.absorb_batch.result c.self.inside.shelf.index.rows.items c.absorb_batch.new.shelf.index.rows.items c.self.inside.catalog c.reserve.new.self.items c.absorb_batch.new.entries.items c.in_ok-copy.copy
    (ap (λ e. e.kind) c.in_ok-copy.ensures ∙ c.in-Batch.is)
    (c.self.invariant.0 ∙ ap arrived_of (sym c.in_ok-reserve.ensures.items)) (c.self.invariant.1 ∙ ap live_of (sym c.in_ok-reserve.ensures.items))
    c.absorb_batch.ensures.rows c.absorb_batch.ensures.entries c.absorb_batch.ensures.same_rows c.absorb_batch.ensures.same_entries in
    (held.0, held.1, absorbed_spelled c.absorb_batch.result c.reserve.new.self.items c.absorb_batch.new.entries.items c.in_ok-copy.copy all is c.absorb_batch.ensures.entries c.absorb_batch.ensures.same_entries)

pub invariant_of-self-2 : goal.invariant_of-self-2
invariant_of-self-2 c =
    let all = subst (AllByRecursion IsEntry) (sym c.in_ok-reserve.ensures.items) c.self.invariant.2 in
    let is = subst IsEntry (sym c.in_ok-copy.ensures) c.requires.spelled in
    let held = absorbed_revision c.absorb_revision.result c.self.inside.shelf.index.rows.items c.self.inside.catalog c.absorb_revision.new.catalog c.reserve.new.self.items c.absorb_revision.new.entries.items c.in_ok-copy.copy
    (ap (λ e. e.kind) c.in_ok-copy.ensures ∙ other_kind c.args.entry.now.kind c.in_default.not-Batch)
    (c.self.invariant.0 ∙ ap arrived_of (sym c.in_ok-reserve.ensures.items)) (c.self.invariant.1 ∙ ap live_of (sym c.in_ok-reserve.ensures.items))
    c.absorb_revision.ensures.lines c.absorb_revision.ensures.entries c.absorb_revision.ensures.same_lines c.absorb_revision.ensures.same_entries in
    (held.0, held.1, absorbed_spelled c.absorb_revision.result c.reserve.new.self.items c.absorb_revision.new.entries.items c.in_ok-copy.copy all is c.absorb_revision.ensures.entries c.absorb_revision.ensures.same_entries)
