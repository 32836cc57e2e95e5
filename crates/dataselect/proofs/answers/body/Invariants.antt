use Rattle.std.proofs.Common.{◌≡◌, take}
use Rattle.dataselect.specs.DataBody.{images_at}
use Rattle.dataselect.proofs.answers.body.Given as goal

abbrev pub invariant-places : goal.invariant-places
invariant-places g l = l.body ≡ images_at (g.S.Shelf.rows l.shelf) (take l.place-index l.places)
