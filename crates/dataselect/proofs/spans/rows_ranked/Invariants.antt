use Rattle.std.proofs.Common.{◌≡◌, ◌++◌, map, Bor}
use Rattle.mseed_header.specs.declared.row.Row.{Row}
use Rattle.dataselect.specs.SpanOrder.{rows_ranked}
use Rattle.dataselect.proofs.spans.rows_ranked.Given as goal

abbrev pub invariant-ranks : goal.invariant-ranks
invariant-ranks l = map {A = Bor Row} {B = Row} (λ r. r.now) l.ranked ++ rows_ranked l.rows l.rank-iterator ≡ rows_ranked l.rows l.ranks.keys
