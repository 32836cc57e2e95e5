use Rattle.std.proofs.Common.{rules, ◌≡◌, ◌∙◌, Some, ap, subst, sym}
use Rattle.std.specs.List.{slice_get}
use Rattle.std.proofs.lemmas.Option.{slice_get-get_or, slice_get_past}
use Rattle.time_index.specs.Index.{IsOfName}
use Rattle.time_index.specs.Windows.{passes_by}
use Rattle.time_index.proofs.Found.{rank_in, rank_out, rank_none}
use Rattle.time_index.proofs.windows.add_rank.Goals as goal

pub returns-in_default : goal.returns-in_default
returns-in_default g c = record {
  ok = rank_none (passes_by (g.V.Sight.seen c.args.asked.now.sight.now) c.args.asked.now.query.now c.args.asked.now.selection.now) c.args.place c.args.rows.now c.args.ranks.now (slice_get_past c.args.rows.now c.args.place (search rules));
}

pub has-requires : goal.has-requires
has-requires g c =
    let at : slice_get c.args.rows.now c.args.place ≡ Some c.in-Some.row.now = slice_get-get_or c.args.rows.now c.args.place c.in-Some.row.now (search rules) ∙ ap Some (sym c.in-Some.ensures.lookup.1) in
    record { of_it = subst (IsOfName c.args.asked.now.name.now) at c.requires.of_it }

pub returns-in_ok-push : goal.returns-in_ok-push
returns-in_ok-push g c = record {
  ok = rank_in (passes_by (g.V.Sight.seen c.args.asked.now.sight.now) c.args.asked.now.query.now c.args.asked.now.selection.now) c.args.place c.args.rows.now c.in-Some.row.now c.args.ranks.now c.push.new.self
      (slice_get-get_or c.args.rows.now c.args.place c.in-Some.row.now (search rules) ∙ ap Some (sym c.in-Some.ensures.lookup.1))
      (sym c.has.ensures ∙ c.if-has.true) (search rules);
}

pub returns-else-has : goal.returns-else-has
returns-else-has g c = record {
  ok = rank_out (passes_by (g.V.Sight.seen c.args.asked.now.sight.now) c.args.asked.now.query.now c.args.asked.now.selection.now) c.args.place c.args.rows.now c.in-Some.row.now c.args.ranks.now
      (slice_get-get_or c.args.rows.now c.args.place c.in-Some.row.now (search rules) ∙ ap Some (sym c.in-Some.ensures.lookup.1))
      (sym c.has.ensures ∙ c.if-has.false);
}
