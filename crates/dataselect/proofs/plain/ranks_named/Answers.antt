use Rattle.std.proofs.Common.{◌∙◌, sym}
use Rattle.dataselect.proofs.SpanRanks.{span_rank_same, ranked, passed_over}
use Rattle.dataselect.proofs.plain.ranks_named.Goals as goal
use Rattle.dataselect.proofs.plain.ranks_named.Goals.{then-is_same_name+in_ok-insert, else-is_same_name}

pub rows-preserved : goal.rows-preserved
rows-preserved c =
    elim c.if-is_same_name.branch [
      | then-is_same_name+in_ok-insert w ↦ rw (w.ranks-is, w.in_ok-insert.ensures.keys, span_rank_same, w.span_rank_of.ensures)
          (ranked c.args.name.now c.rows.ranks.keys c.rows.index c.args.rows.now c.index-rows-index.result c.rows-test.true c.index-rows-index.is (sym c.is_same_name.ensures.value ∙ w.if-is_same_name.true) ∙ c.rows.invariant)
      | else-is_same_name w ↦ rw w.ranks-is
          (passed_over c.args.name.now c.rows.ranks.keys c.rows.index c.args.rows.now c.index-rows-index.result c.rows-test.true c.index-rows-index.is (sym c.is_same_name.ensures.value ∙ w.if-is_same_name.false) ∙ c.rows.invariant)
    ]
