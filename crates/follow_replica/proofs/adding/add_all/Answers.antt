use Rattle.std.proofs.Common.{◌≡◌, ◌∙◌, ◌+◌, ◌∷◌, [], ℕ, List, Ok, Err, refl, sym, ap, subst, arith}
use Rattle.std.specs.List.{AllByRecursion}
use Rattle.std.specs.Vec.Iter.{into_iter_items}
use Rattle.archive_entry.specs.Spelling.{IsEntry}
use Rattle.archive_entry.specs.declared.entry.Entry.{Entry}
use Rattle.archive_log.specs.Archive.{Archived}
use Rattle.follow_replica.specs.Numbers.{coming_from}
use Rattle.follow_replica.specs.Takes.{Adds, AddsSo}
use Rattle.follow_replica.proofs.AddSteps.{adds_none, added_one, fault_at, comes_next, one_more, row_handed}
use Rattle.follow_replica.proofs.adding.add_all.Goals as goal

pub entries-init : goal.entries-init
entries-init g c =
    let view = g.D.Disk.view in
    let a = c.args.intake.now.archive in
    let all = coming_from (a.count + 1) c.args.entries in
    let items : into_iter_items c.into_iter-rest.result ≡ c.args.entries = c.into_iter-rest.ensures.rest ∙ c.into_vec.ensures in
    record {
      stands = c.requires.stands;
      entries = subst (AllByRecursion IsEntry) (sym items) c.requires.entries;
      adds = subst (λ (l : List Entry). Adds view a a all (coming_from (a.count + 1) l)) (sym items) (adds_none view a all (g.met.D.Disk.honest a.disk) c.count-first.ensures.archive);
      stopped = refl;
    }

pub entries-preserved : goal.entries-preserved
entries-preserved g c =
    let view = g.D.Disk.view in
    let inv = c.entries.invariant in
    let a = c.args.intake.now.archive in
    let b = c.entries.intake.archive in
    let new = c.add.new.intake.archive in
    let e = c.in-Some.entry in
    let items = into_iter_items c.next.new.self in
    let all = coming_from (a.count + 1) c.args.entries in
    let split : into_iter_items c.entries.rest ≡ e ∷ items = c.in-Some.ensures.items in
    let number : e.number ≡ b.count + 1 = omega (arith, c.if-entry-count.false, c.count.ensures.count) in
    let mid : Adds view a b all (e ∷ coming_from (b.count + 1 + 1) items) = subst (Adds view a b all) (ap (coming_from (b.count + 1)) split ∙ comes_next (b.count + 1) e items number) inv.adds in
    let row = subst (λ (x : Archived g.row.D.Denot). AddsSo view (e ∷ []) x new (Ok 1)) c.settle.ensures.same c.in_ok-add.ensures.row in
    let count = one_more view b new e row.0 in
    record {
      stands = c.add.ensures.stands;
      entries = (subst (AllByRecursion IsEntry) split inv.entries).1;
      adds = subst (λ (n : ℕ). Adds view a new all (coming_from (n + 1) items)) (sym count) (added_one view a b new all (coming_from (b.count + 1 + 1) items) e mid inv.stopped row.0);
      stopped = row.2 ∙ inv.stopped;
    }

pub returns-in_err-add-clause-row : goal.returns-in_err-add-clause-row
returns-in_err-add-clause-row g c =
    let view = g.D.Disk.view in
    let inv = c.entries.invariant in
    let a = c.args.intake.now.archive in
    let b = c.entries.intake.archive in
    let new = c.add.new.intake.archive in
    let e = c.in-Some.entry in
    let items = into_iter_items c.next.new.self in
    let all = coming_from (a.count + 1) c.args.entries in
    let split : into_iter_items c.entries.rest ≡ e ∷ items = c.in-Some.ensures.items in
    let number : e.number ≡ b.count + 1 = omega (arith, c.if-entry-count.false, c.count.ensures.count) in
    let mid : Adds view a b all (e ∷ coming_from (b.count + 1 + 1) items) = subst (Adds view a b all) (ap (coming_from (b.count + 1)) split ∙ comes_next (b.count + 1) e items number) inv.adds in
    let f = c.in_err-add.field-0.0 in
    let row = subst (λ (x : Archived g.row.D.Denot). AddsSo view (e ∷ []) x new (Err f)) c.settle.ensures.same c.in_err-add.ensures.row in
    row_handed view a new all f c.from_residual-in_err-add.result c.from_residual-in_err-add.ensures.1 (fault_at view a b new all (coming_from (b.count + 1 + 1) items) e f mid inv.stopped row)
