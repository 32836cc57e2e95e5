use Rattle.std.proofs.Common.{◌≡◌, drop, []}
use Rattle.list_laws.specs.InOrder.{in_order}
use Rattle.availability.specs.Ranks.{rank_cmp, ranks_at}
use Rattle.availability.specs.Spans.{passes}
use Rattle.availability.proofs.rows.ranks.Given as goal

abbrev pub invariant-places : goal.invariant-places
invariant-places g l =
    in_order rank_cmp l.ranks.keys (ranks_at (passes (g.V.Sight.seen l.sight) l.query) l.query (g.S.Shelf.rows l.shelf) (drop l.place-index l.places))
    ≡ in_order rank_cmp [] (ranks_at (passes (g.V.Sight.seen l.sight) l.query) l.query (g.S.Shelf.rows l.shelf) l.places)
