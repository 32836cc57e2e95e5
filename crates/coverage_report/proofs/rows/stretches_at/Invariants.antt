use Rattle.std.proofs.Common.{◌≡◌, drop, []}
use Rattle.list_laws.specs.InOrder.{in_order}
use Rattle.coverage_report.specs.Stretches.{stretch_cmp, stretches_at}
use Rattle.coverage_report.proofs.rows.stretches_at.Given as goal

abbrev pub invariant-places : goal.invariant-places
invariant-places g l =
    in_order stretch_cmp l.stretches.keys (stretches_at (g.V.Sight.seen l.sight) l.first.micros l.size (g.S.Shelf.rows l.shelf) (drop l.place-index l.places))
    ≡ in_order stretch_cmp [] (stretches_at (g.V.Sight.seen l.sight) l.first.micros l.size (g.S.Shelf.rows l.shelf) l.places)
