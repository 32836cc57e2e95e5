use Rattle.std.proofs.Common.{◌∙◌, arith}
use Rattle.dataselect.proofs.Inside.{inside, few}
use Rattle.dataselect.proofs.answers.answer_places.Goals as goal

pub total_size-total-requires-clause-inside : goal.total_size-total-requires-clause-inside
total_size-total-requires-clause-inside g c = inside (g.V.Sight.seen c.args.sight.now) c.args.query.now (g.S.Shelf.rows c.args.shelf.now) _ (c.as_slice.ensures ∙ c.in_ok-places.ensures)

pub total_size-total-requires-clause-few : goal.total_size-total-requires-clause-few
total_size-total-requires-clause-few g c =
    let h = few (g.V.Sight.seen c.args.sight.now) c.args.query.now (g.S.Shelf.rows c.args.shelf.now) c.as_slice.result.now (c.as_slice.ensures ∙ c.in_ok-places.ensures) in
    omega (arith, g.met.S.Shelf.few c.args.shelf.now)

pub returns-clause-inside : goal.returns-clause-inside
returns-clause-inside g c = inside (g.V.Sight.seen c.args.sight.now) c.args.query.now (g.S.Shelf.rows c.args.shelf.now) _ c.in_ok-places.ensures
