use Rattle.std.proofs.Common.{◌∙◌, sym}
use Rattle.dataselect.proofs.Orders.{rank_same}
use Rattle.dataselect.proofs.Steps.{taken, skipped}
use Rattle.dataselect.proofs.plain.ranks.Goals as goal
use Rattle.dataselect.proofs.plain.ranks.Goals.{then-is_chosen+in_ok-insert, else-is_chosen}

pub rows-preserved : goal.rows-preserved
rows-preserved g c =
    let seen = g.V.Sight.seen c.args.sight.now in
    elim c.if-is_chosen.branch [
      | then-is_chosen+in_ok-insert w ↦ rw (w.ranks-is, w.in_ok-insert.ensures.keys, rank_same, w.rank_of.ensures)
          (taken seen c.args.query.now c.rows.ranks.keys c.rows.index c.args.rows.now c.index-rows-index.result c.rows-test.true c.index-rows-index.is (sym c.is_chosen.ensures ∙ w.if-is_chosen.true) ∙ c.rows.invariant)
      | else-is_chosen w ↦ rw w.ranks-is
          (skipped seen c.args.query.now c.rows.ranks.keys c.rows.index c.args.rows.now c.index-rows-index.result c.rows-test.true c.index-rows-index.is (sym c.is_chosen.ensures ∙ w.if-is_chosen.false) ∙ c.rows.invariant)
    ]
