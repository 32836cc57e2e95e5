use Rattle.std.proofs.Common.{◌≡◌, ◌++◌, map, Bor}
use Rattle.mseed_header.specs.declared.row.Row.{Row}
use Rattle.availability.specs.Ranks.{rows_ranked}
use Rattle.availability.proofs.rows.rows_ranked.Given as goal

abbrev pub invariant-ranks : goal.invariant-ranks
invariant-ranks g l = map {A = Bor Row} {B = Row} (λ r. r.now) l.rows ++ rows_ranked (g.S.Shelf.rows l.shelf) l.rank-iterator ≡ rows_ranked (g.S.Shelf.rows l.shelf) l.ranks.keys
