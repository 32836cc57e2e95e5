-- How rows are put in order for their spans.
use Rattle.std.specs.Prelude.{ℕ, Bool, List, [], ◌∷◌, map, Option, Some, None, if◌then◌else◌}
use Rattle.std.specs.List.{flat_map, slice_get}
use Rattle.std.specs.Ordering.{nat_cmp, int_cmp, ordering_then}
use Rattle.std.specs.declared.cmp.Ordering.{Ordering}
use Rattle.list_laws.specs.InOrder.{in_order}
use Rattle.mseed_header.specs.declared.row.Row.{Row}
use Rattle.dataselect.specs.SpanOrder.{row_or_none}
use Rattle.dataselect.specs.Spans.{placed_from}
use Rattle.query_words.specs.declared.avail.AvailQuery.{AvailQuery}
use Rattle.availability.specs.declared.rank.Rank.{Rank}
use Rattle.availability.specs.Spans.{group_of}
use Rattle.availability.specs.Windows.{group_cmp}

-- by group, start, entry, place and place in the shelf
abbrev pub rank_cmp : Rank → Rank → Ordering
rank_cmp a b =
    ordering_then (group_cmp a.group b.group)
    (ordering_then (int_cmp a.start.micros b.start.micros)
    (ordering_then (nat_cmp a.entry b.entry)
    (ordering_then (nat_cmp a.place b.place) (nat_cmp a.index b.index))))

-- the rank of the row at a place of a shelf
abbrev pub rank_at : AvailQuery → ℕ → Row → Rank
rank_at q index row = record {
  group = group_of q row.header;
  start = row.header.start;
  entry = row.entry;
  place = row.place;
  index = index;
}

abbrev pub rank_placed : AvailQuery → ℕ × Row → Rank
rank_placed q p = rank_at q p.0 p.1

-- the ranks of the rows that pass a test, in order
abbrev pub ranks_of : (Row → Bool) → AvailQuery → List Row → List Rank
ranks_of test q rows = in_order rank_cmp [] (map (rank_placed q) (placed_from test 0 rows))

-- the rank of the row at a place, if there is one and it passes
abbrev pub rank_if : (Row → Bool) → AvailQuery → ℕ → Option Row → List Rank
rank_if test q place None = []
rank_if test q place (Some row) = if test row then rank_at q place row ∷ [] else []

-- the ranks of the rows at these places that pass
abbrev pub ranks_at : (Row → Bool) → AvailQuery → List Row → List ℕ → List Rank
ranks_at test q rows places = flat_map (λ place. rank_if test q place (slice_get rows place)) places

-- the rows at the places of ranks
abbrev pub rows_ranked : List Row → List Rank → List Row
rows_ranked rows ranks = flat_map (λ rank. row_or_none (slice_get rows rank.index)) ranks
