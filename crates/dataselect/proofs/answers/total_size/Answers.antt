use Rattle.std.proofs.Common.{arith}
use Rattle.dataselect.proofs.Bodies.{size_more}
use Rattle.dataselect.proofs.answers.total_size.Goals as goal

pub places-preserved : goal.places-preserved
places-preserved g c =
    let more = size_more (g.S.Shelf.rows c.args.shelf.now) c.args.places.now c.places.place-index c.row.result.now c.places-test.true c.row.ensures in
    record {
      total = omega (arith, more);
      bound = omega arith;
    }
