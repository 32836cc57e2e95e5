-- The order of rows for their spans.
use Rattle.std.specs.Prelude.{ℕ, List, [], ◌∷◌, map, Option, Some, None}
use Rattle.std.specs.List.{flat_map, slice_get}
use Rattle.std.specs.declared.cmp.Ordering.{Ordering}
use Rattle.std.specs.Ordering.{nat_cmp, int_cmp, ordering_then}
use Rattle.list_laws.specs.InOrder.{in_order}
use Rattle.exact_time.specs.RateOrder.{rate_cmp}
use Rattle.channel_globs.specs.declared.nslc.Nslc.{Nslc}
use Rattle.channel_globs.specs.Names.{name_cmp}
use Rattle.mseed_header.specs.Quality.{quality_cmp}
use Rattle.mseed_header.specs.declared.row.Row.{Row}
use Rattle.dataselect.specs.MergedSpans.{has_name}
use Rattle.dataselect.specs.Spans.{placed_from}
use Rattle.dataselect.specs.declared.span_order.SpanRank.{SpanRank}

-- by name, quality letter, rate, start, entry, place and place in the shelf
abbrev pub span_rank_cmp : SpanRank → SpanRank → Ordering
span_rank_cmp a b =
    ordering_then (name_cmp a.name b.name)
    (ordering_then (quality_cmp a.quality b.quality)
    (ordering_then (rate_cmp a.rate b.rate)
    (ordering_then (int_cmp a.start.micros b.start.micros)
    (ordering_then (nat_cmp a.entry b.entry)
    (ordering_then (nat_cmp a.place b.place) (nat_cmp a.index b.index))))))

-- the rank of the row at a place of a shelf
abbrev pub span_rank_at : ℕ → Row → SpanRank
span_rank_at index row = record {
  name = row.header.name;
  quality = row.header.quality;
  rate = row.header.rate;
  start = row.header.start;
  entry = row.entry;
  place = row.place;
  index = index;
}

abbrev pub rank_placed : ℕ × Row → SpanRank
rank_placed p = span_rank_at p.0 p.1

-- the row at a rank's place
abbrev pub row_or_none : Option Row → List Row
row_or_none None = []
row_or_none (Some row) = row ∷ []

abbrev pub rows_ranked : List Row → List SpanRank → List Row
rows_ranked rows ranks = flat_map (λ rank. row_or_none (slice_get rows rank.index)) ranks

-- the ranks of the rows of a name, in order
abbrev pub ranks_named : Nslc → List Row → List SpanRank
ranks_named name rows = in_order span_rank_cmp [] (map rank_placed (placed_from (has_name name) 0 rows))
