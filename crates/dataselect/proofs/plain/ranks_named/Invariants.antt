use Rattle.std.proofs.Common.{◌≡◌, drop, map}
use Rattle.list_laws.specs.InOrder.{in_order}
use Rattle.dataselect.specs.MergedSpans.{has_name}
use Rattle.dataselect.specs.SpanOrder.{span_rank_cmp, rank_placed, ranks_named}
use Rattle.dataselect.specs.Spans.{placed_from}
use Rattle.dataselect.proofs.plain.ranks_named.Given as goal

abbrev pub invariant-rows : goal.invariant-rows
invariant-rows l = in_order span_rank_cmp l.ranks.keys (map rank_placed (placed_from (has_name l.name) l.index (drop l.index l.rows))) ≡ ranks_named l.name l.rows
