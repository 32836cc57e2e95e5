use Rattle.std.proofs.Common.{◌∙◌, sym, ap, ◌++◌, List, ℕ}
use Rattle.dataselect.proofs.Bodies.{images_more}
use Rattle.dataselect.proofs.answers.body.Goals as goal

pub places-preserved : goal.places-preserved
places-preserved g c =
    let more = images_more (g.S.Shelf.rows c.args.shelf.now) c.args.places.now c.places.place-index c.row.result.now c.places-test.true c.row.ensures in
    c.in_ok-extend.ensures.ok ∙ ap (λ (xs : List ℕ). c.places.body ++ xs) c.as_slice.ensures ∙ ap (λ (xs : List ℕ). xs ++ c.row.result.now.image) c.places.invariant ∙ sym more
