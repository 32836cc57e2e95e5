use Rattle.std.proofs.Common.{◌≡◌, take, length, ◌≤◌, ◌*◌}
use Rattle.dataselect.specs.DataBody.{images_at}
use Rattle.dataselect.proofs.answers.total_size.Given as goal

abbrev pub invariant-places : goal.invariant-places
invariant-places g l = record {
  total : l.total ≡ length (images_at (g.S.Shelf.rows l.shelf) (take l.place-index l.places));
  bound : l.total ≤ l.place-index * 65_536;
}
