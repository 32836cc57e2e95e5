-- The time spans of records (fdsnws-availability 1.0, query): those that are seen and have a quality that is
-- asked for, joined where one follows on others.
use Rattle.std.specs.Prelude.{Bool, ◌&&◌, ◌||◌, List, Some, None, if◌then◌else◌}
use Rattle.std.specs.List.{list_any}
use Rattle.list_laws.specs.Breaks.{made_of_each}
use Rattle.exact_time.specs.SampleTime.{floor_at}
use Rattle.exact_time.specs.declared.moment.Moment.{Moment}
use Rattle.channel_globs.specs.declared.nslc.Nslc.{Nslc}
use Rattle.mseed_header.specs.Times.{last_index}
use Rattle.mseed_header.specs.declared.header.Header.{Header}
use Rattle.mseed_header.specs.declared.quality.Quality.{Quality}
use Rattle.mseed_header.specs.declared.quality.Quality.TheVariants.{D, M, Q, R}
use Rattle.mseed_header.specs.declared.row.Row.{Row}
use Rattle.dataselect.specs.Query.{is_named}
use Rattle.dataselect.specs.Spans.{Merging, rows_in_order, span_runs}
use Rattle.dataselect.specs.declared.query.Selection.{Selection}
use Rattle.query_parameters.specs.declared.avail.QualitySet.{QualitySet}
use Rattle.query_words.specs.declared.avail.AvailQuery.{AvailQuery}
use Rattle.availability.specs.Windows.{earlier_of, later_of}
use Rattle.availability.specs.declared.span.Group.{Group}
use Rattle.availability.specs.declared.span.TimeSpan.{TimeSpan}

abbrev pub merging_of : AvailQuery → Merging
merging_of q = record { quality = q.merge_quality; rate = q.merge_rate; overlap = q.merge_overlap; gap = q.gaps }

abbrev pub has_quality : QualitySet → Quality → Bool
has_quality set D = set.d
has_quality set M = set.m
has_quality set Q = set.q
has_quality set R = set.r

-- some selection matches the codes
abbrev pub is_matched : List Selection → Nslc → Bool
is_matched selections name = list_any (λ s. is_named s name) selections

-- the row is seen, and has a quality that is asked for
abbrev pub passes : (Row → Bool) → AvailQuery → Row → Bool
passes seen q row = seen row && has_quality q.qualities row.header.quality

-- the row is seen, and its name and quality are asked for
abbrev pub is_asked : (Row → Bool) → AvailQuery → Row → Bool
is_asked seen q row = is_matched q.selections row.header.name && passes seen q row

abbrev pub group_of : AvailQuery → Header → Group
group_of q h = record {
  name = h.name;
  quality = if q.merge_quality then None else Some h.quality;
  rate = if q.merge_rate then None else Some h.rate;
}

-- the time of a record's last sample, rounded down to a microsecond
abbrev pub last_moment : Header → Moment
last_moment h = record { micros = floor_at h.start.micros (last_index h) h.rate }

-- the span of a row alone, and a span with one row more
abbrev pub span_at : (Row → Bool) → AvailQuery → Row → TimeSpan
span_at touched q row = record {
  group = group_of q row.header;
  start = row.header.start;
  last = last_moment row.header;
  updated = row.moment;
  restricted = touched row;
}

abbrev pub longer : (Row → Bool) → TimeSpan → Row → TimeSpan
longer touched s row = record {
  group = s.group;
  start = earlier_of s.start row.header.start;
  last = later_of s.last (last_moment row.header);
  updated = later_of s.updated row.moment;
  restricted = s.restricted || touched row;
}

-- the spans of rows in order; an item may be more than a row
abbrev pub spans_in : {X : Type 0} → (X → Row) → (Row → Bool) → AvailQuery → List X → List TimeSpan
spans_in row touched q xs =
    made_of_each (λ x. span_at touched q (row x)) (λ s x. longer touched s (row x)) (span_runs (merging_of q) (λ x. (row x).header) xs)

-- the spans of the rows of a shelf
abbrev pub spans_of : (Row → Bool) → (Row → Bool) → AvailQuery → List Row → List TimeSpan
spans_of seen touched q rows = spans_in (λ row. row) touched q (rows_in_order (merging_of q) (is_asked seen q) rows)
