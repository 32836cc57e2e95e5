-- The spans of one channel, each quality and rate by itself, with overlaps merged.
use Rattle.std.specs.Prelude.{ℕ, ◌+◌, ℤ, pos, ◌*ℤ◌, Bool, true, false, List}
use Rattle.std.specs.Int.{int_min, int_max}
use Rattle.std.specs.declared.cmp.Ordering.{Ordering}
use Rattle.std.specs.Ordering.{nat_cmp, int_cmp, ordering_then}
use Rattle.list_laws.specs.Breaks.{made_of_each}
use Rattle.list_laws.specs.Greater.{greater}
use Rattle.exact_time.specs.SampleTime.{sample_micros, sample_parts}
use Rattle.exact_time.specs.declared.ratio.Ratio.{Ratio}
use Rattle.exact_time.specs.declared.sample.SampleTime.{SampleTime}
use Rattle.channel_globs.specs.declared.nslc.Nslc.{Nslc}
use Rattle.mseed_header.specs.Times.{last_index, next_index}
use Rattle.mseed_header.specs.declared.header.Header.{Header}
use Rattle.mseed_header.specs.declared.quality.Quality.{Quality}
use Rattle.mseed_header.specs.declared.row.Row.{Row}
use Rattle.dataselect.specs.Segments.{is_same_name}
use Rattle.dataselect.specs.Spans.{Merging, rows_in_order, span_runs}
use Rattle.dataselect.specs.declared.span.Span.{Span}

-- a sample's time as a plain value: so many samples of a rate after a start
pub record SampleAt : Type 0 where
  pub start : ℤ
  pub k : ℕ
  pub rate : Ratio

abbrev pub sample_at : SampleTime → SampleAt
sample_at t = record { start = t.start.micros; k = t.k; rate = t.rate }

abbrev pub last_at : Header → SampleAt
last_at h = record { start = h.start.micros; k = last_index h; rate = h.rate }

abbrev pub next_at : Header → SampleAt
next_at h = record { start = h.start.micros; k = next_index h; rate = h.rate }

abbrev pub micros_at : SampleAt → ℤ
micros_at t = sample_micros t.start t.k t.rate

-- by the times themselves; of equal times the one with the most samples after its start is the greatest, so
-- that the greatest of some is one alone
abbrev pub at_cmp : SampleAt → SampleAt → Ordering
at_cmp a b =
    ordering_then (int_cmp (micros_at a *ℤ pos (sample_parts b.rate)) (micros_at b *ℤ pos (sample_parts a.rate)))
    (nat_cmp a.k b.k)

-- a span as a plain value
pub record SpanValue : Type 0 where
  pub name : Nslc
  pub quality : Quality
  pub rate : Ratio
  pub start : ℤ
  pub next : SampleAt
  pub last : SampleAt
  pub updated : ℤ
  pub rows : ℕ

abbrev pub value_of : Span → SpanValue
value_of s = record {
  name = s.name;
  quality = s.quality;
  rate = s.rate;
  start = s.start.micros;
  next = sample_at s.next;
  last = sample_at s.last;
  updated = s.updated.micros;
  rows = s.rows;
}

-- the span of a row alone
abbrev pub span_at : Row → SpanValue
span_at row = record {
  name = row.header.name;
  quality = row.header.quality;
  rate = row.header.rate;
  start = row.header.start.micros;
  next = next_at row.header;
  last = last_at row.header;
  updated = row.moment.micros;
  rows = 1;
}

-- with one row more: the least start, the greatest next, last and moment, and the number of rows
abbrev pub longer : SpanValue → Row → SpanValue
longer s row = record {
  name = s.name;
  quality = s.quality;
  rate = s.rate;
  start = int_min s.start row.header.start.micros;
  next = greater at_cmp s.next (next_at row.header);
  last = greater at_cmp s.last (last_at row.header);
  updated = int_max s.updated row.moment.micros;
  rows = s.rows + 1;
}

-- each quality and rate by itself, what overlaps is merged, and no gap is allowed
abbrev pub by_quality_and_rate : Merging
by_quality_and_rate = record { quality = false; rate = false; overlap = true; gap = 0 }

abbrev pub has_name : Nslc → Row → Bool
has_name name row = is_same_name row.header.name name

-- the spans of the rows of a name, in order of quality, rate and start
abbrev pub merged_spans_of : Nslc → List Row → List SpanValue
merged_spans_of name rows =
    made_of_each span_at longer
    (span_runs by_quality_and_rate (λ row. row.header) (rows_in_order by_quality_and_rate (has_name name) rows))
