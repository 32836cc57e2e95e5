-- The order of chosen rows: name, quality letter, start, entry, place.
use Rattle.std.specs.Prelude.{ℕ}
use Rattle.std.specs.declared.cmp.Ordering.{Ordering}
use Rattle.std.specs.Ordering.{nat_cmp, int_cmp, ordering_then}
use Rattle.channel_globs.specs.Names.{name_cmp}
use Rattle.mseed_header.specs.Quality.{quality_cmp}
use Rattle.mseed_header.specs.declared.row.Row.{Row}
use Rattle.dataselect.specs.declared.order.Rank.{Rank}

-- by name, quality letter, start, entry, place and place in the shelf
abbrev pub rank_cmp : Rank → Rank → Ordering
rank_cmp a b =
    ordering_then (name_cmp a.name b.name)
    (ordering_then (quality_cmp a.quality b.quality)
    (ordering_then (int_cmp a.start.micros b.start.micros)
    (ordering_then (nat_cmp a.entry b.entry)
    (ordering_then (nat_cmp a.place b.place) (nat_cmp a.index b.index)))))

-- the rank of the row at a place of a shelf
abbrev pub rank_at : ℕ → Row → Rank
rank_at index row = record {
  name = row.header.name;
  quality = row.header.quality;
  start = row.header.start;
  entry = row.entry;
  place = row.place;
  index = index;
}
