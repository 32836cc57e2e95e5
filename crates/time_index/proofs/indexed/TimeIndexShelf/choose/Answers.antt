use Rattle.std.proofs.Common.{◌∙◌, ap, sym}
use Rattle.dataselect.specs.Chosen.{chosen_places}
use Rattle.dataselect.proofs.Inside.{inside_chosen}
use Rattle.dataselect.proofs.Rises.{names_rise}
use Rattle.time_index.proofs.indexed.TimeIndexShelf.choose.Goals as goal

pub pick-requires-clause-inside : goal.pick-requires-clause-inside
pick-requires-clause-inside g c =
    inside_chosen (g.V.Sight.seen c.args.sight.now) c.args.query.now c.as_slice.result.now c.in_ok-places.places
    (c.in_ok-places.ensures ∙ ap (chosen_places (g.V.Sight.seen c.args.sight.now) c.args.query.now) (sym c.as_slice.ensures.value))

pub pick-requires-clause-names : goal.pick-requires-clause-names
pick-requires-clause-names g c =
    names_rise (g.V.Sight.seen c.args.sight.now) c.args.query.now c.as_slice.result.now c.in_ok-places.places
    (c.in_ok-places.ensures ∙ ap (chosen_places (g.V.Sight.seen c.args.sight.now) c.args.query.now) (sym c.as_slice.ensures.value))
