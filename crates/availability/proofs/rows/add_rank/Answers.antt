use Rattle.std.proofs.Common.{refl, sym, ◌∙◌}
use Rattle.availability.specs.Spans.{passes}
use Rattle.availability.proofs.Ranked.{rank_same, rank_in}
use Rattle.availability.proofs.rows.add_rank.Goals as goal

pub returns-in_ok-insert : goal.returns-in_ok-insert
returns-in_ok-insert g c =
    let held = g.S.Shelf.rows c.args.shelf.now in
    record {
      ok =
          rank_in (passes (g.V.Sight.seen c.args.sight.now) c.args.query.now) c.args.query.now c.args.place held c.args.ranks.now.keys c.row-row.result.now c.insert.new.self.keys c.row-row.ensures
          (sym c.passes.ensures ∙ c.if-passes.true) (rw (c.in_ok-insert.ensures.keys, rank_same, c.rank_of.ensures) refl);
    }
