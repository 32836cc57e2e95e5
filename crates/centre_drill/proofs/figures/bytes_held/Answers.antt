use Rattle.std.proofs.Common.{◌≡◌, ◌+◌, ℕ, suc, length, take, ap, arith}
use Rattle.mseed_header.specs.Records.{images_of}
use Rattle.centre_drill.proofs.Counts.{sized_more}
use Rattle.centre_drill.proofs.figures.bytes_held.Goals as goal

pub rows-preserved : goal.rows-preserved
rows-preserved g c =
    let rows = g.S.Shelf.rows c.args.shelf.now in
    let next : c.rows.i + 1 ≡ suc c.rows.i = omega arith in
    let more = sized_more rows c.rows.i c.row.result.now c.row.ensures in
    record {
      total = omega (arith, more, ap (λ (n : ℕ). length (images_of (take n rows))) next);
      bound = omega arith;
    }
