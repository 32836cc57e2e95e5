use Rattle.std.proofs.Common.{◌∙◌, sym}
use Rattle.dataselect.proofs.Placed.{place_taken, place_passed}
use Rattle.dataselect.proofs.plain.places_named.Goals as goal
use Rattle.dataselect.proofs.plain.places_named.Goals.{then-is_same_name+in_ok-push, else-is_same_name}

pub rows-preserved : goal.rows-preserved
rows-preserved c =
    elim c.if-is_same_name.branch [
      | then-is_same_name+in_ok-push w ↦ rw w.places-is
          (place_taken c.args.name.now c.rows.places c.rows.index c.args.rows.now c.index-rows-index.result c.rows-test.true c.index-rows-index.is _ w.in_ok-push.ensures.ok (sym c.is_same_name.ensures.value ∙ w.if-is_same_name.true) ∙ c.rows.invariant)
      | else-is_same_name w ↦ rw w.places-is
          (place_passed c.args.name.now c.rows.places c.rows.index c.args.rows.now c.index-rows-index.result c.rows-test.true c.index-rows-index.is (sym c.is_same_name.ensures.value ∙ w.if-is_same_name.false) ∙ c.rows.invariant)
    ]
