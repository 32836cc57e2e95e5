use Rattle.std.proofs.Common.{◌≡◌, [], map, ℕ}
use Rattle.list_laws.specs.InOrder.{in_order}
use Rattle.dataselect.specs.MergedSpans.{has_name}
use Rattle.dataselect.specs.SpanOrder.{span_rank_cmp}
use Rattle.time_index.specs.SpanRanks.{span_ranks_at}
use Rattle.time_index.specs.declared.spot.Spot.{Spot}
use Rattle.time_index.proofs.channel_spans.ranks_at.Given as goal

abbrev pub invariant-spots : goal.invariant-spots
invariant-spots l =
    in_order span_rank_cmp l.ranks.keys (span_ranks_at (has_name l.name) l.rows (map {A = Spot} {B = ℕ} (λ s. s.place) l.spot-iterator))
    ≡ in_order span_rank_cmp [] (span_ranks_at (has_name l.name) l.rows (map {A = Spot} {B = ℕ} (λ s. s.place) l.spots.keys))
