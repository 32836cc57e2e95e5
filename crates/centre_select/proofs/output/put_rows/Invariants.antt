use Rattle.std.proofs.Common.{take}
use Rattle.dataselect.specs.DataBody.{images_at}
use Rattle.centre_select.proofs.Written.{Waits}
use Rattle.centre_select.proofs.output.put_rows.Given as goal

abbrev pub invariant-places : goal.invariant-places
invariant-places g l =
    Waits (g.K.Stream.view l.initial.sink) (g.K.Stream.view l.sink) (images_at (g.H.Shelf.rows l.shelf) (take l.place-index l.places)) (take l.chunk.used l.chunk.bytes)
