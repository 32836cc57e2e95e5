use Rattle.std.proofs.Common.{◌≡◌, ◌≤◌, ◌*◌, length, take}
use Rattle.mseed_header.specs.Records.{images_of}
use Rattle.centre_drill.proofs.figures.bytes_held.Given as goal

abbrev pub invariant-rows : goal.invariant-rows
invariant-rows g l = record {
  total : l.total ≡ length (images_of (take l.i (g.S.Shelf.rows l.shelf)));
  bound : l.total ≤ l.i * 65_536;
}
