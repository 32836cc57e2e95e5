-- The ranks of rows at places, for their spans.
use Rattle.std.specs.Prelude.{ℕ, Bool, List, [], ◌∷◌, map, Option, Some, None, if◌then◌else◌}
use Rattle.std.specs.List.{slice_get}
use Rattle.mseed_header.specs.declared.row.Row.{Row}
use Rattle.dataselect.specs.SpanOrder.{span_rank_at}
use Rattle.dataselect.specs.declared.span_order.SpanRank.{SpanRank}
use Rattle.time_index.specs.declared.channels.Channel.{Channel}

abbrev pub span_rank_if : (Row → Bool) → ℕ → Option Row → List SpanRank → List SpanRank
span_rank_if test place None ranks = ranks
span_rank_if test place (Some row) ranks = if test row then span_rank_at place row ∷ ranks else ranks

-- the ranks of the rows at these places that pass a test
abbrev pub span_ranks_at : (Row → Bool) → List Row → List ℕ → List SpanRank
span_ranks_at test rows [] = []
span_ranks_at test rows (place ∷ places) = span_rank_if test place (slice_get rows place) (span_ranks_at test rows places)

-- the places of a channel's rows
abbrev pub places_of : Option Channel → List ℕ
places_of None = []
places_of (Some channel) = map (λ spot. spot.place) channel.spots.keys
