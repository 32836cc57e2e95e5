use Rattle.dataselect.proofs.Inside.{inside_chosen}
use Rattle.dataselect.proofs.Rises.{names_rise}
use Rattle.dataselect.proofs.plain.PlainShelfShelf.choose.Goals as goal

pub pick-requires-clause-inside : goal.pick-requires-clause-inside
pick-requires-clause-inside g c = inside_chosen (g.V.Sight.seen c.args.sight.now) c.args.query.now c.as_slice-rows.result.now c.in_ok-places.places c.in_ok-places.ensures.places

pub pick-requires-clause-names : goal.pick-requires-clause-names
pick-requires-clause-names g c = names_rise (g.V.Sight.seen c.args.sight.now) c.args.query.now c.as_slice-rows.result.now c.in_ok-places.places c.in_ok-places.ensures.places
