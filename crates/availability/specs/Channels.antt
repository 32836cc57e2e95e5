-- The spans of channel behind channel: those of all rows, made of the rows of one name and then of the next.
use Rattle.std.specs.Prelude.{◌≡◌, ◌^◌, ◌-◌, ◌==◌, pos, Bool, false, not, ◌&&◌, List, [], Some}
use Rattle.std.specs.Int.{int_min}
use Rattle.std.specs.List.{AllByRecursion, flat_map}
use Rattle.list_laws.specs.InOrder.{in_order}
use Rattle.exact_time.specs.SampleTime.{floor_at}
use Rattle.channel_globs.specs.Names.{name_cmp}
use Rattle.channel_globs.specs.declared.nslc.Nslc.{Nslc}
use Rattle.mseed_header.specs.declared.row.Row.{Row}
use Rattle.dataselect.specs.HeldNames.{names_of}
use Rattle.dataselect.specs.MergedSpans.{SpanValue, has_name}
use Rattle.dataselect.specs.Spans.{rows_in_order}
use Rattle.dataselect.specs.declared.query.Selection.{Selection}
use Rattle.query_parameters.specs.declared.avail.QualitySet.{QualitySet}
use Rattle.query_words.specs.declared.avail.AvailQuery.{AvailQuery}
use Rattle.availability.specs.Spans.{merging_of, passes, spans_in}
use Rattle.availability.specs.declared.channel.ChannelSpans.{ChannelSpans}
use Rattle.availability.specs.declared.span.TimeSpan.{TimeSpan}

-- the row has that name, is seen, and has a quality that is asked for
abbrev pub is_asked_of : (Row → Bool) → AvailQuery → Nslc → Row → Bool
is_asked_of seen q name row = has_name name row && passes seen q row

-- the spans of the rows of a name
abbrev pub spans_named : (Row → Bool) → (Row → Bool) → AvailQuery → List Row → Nslc → List TimeSpan
spans_named seen touched q rows name =
    spans_in (λ row. row) touched q (rows_in_order (merging_of q) (is_asked_of seen q name) rows)

-- the names of rows that some selection matches, in order
abbrev pub names_asked : List Selection → List Row → List Nslc
names_asked selections rows = in_order name_cmp [] (flat_map (λ s. names_of s rows) selections)

-- the spans of channels, one channel behind another
abbrev pub all_spans : List ChannelSpans → List TimeSpan
all_spans channels = flat_map (λ c. c.spans) channels

-- each span has its channel's name
abbrev pub AreNamed : List ChannelSpans → Type 0
AreNamed channels = AllByRecursion (λ c. AllByRecursion (λ s. s.group.name ≡ c.name) c.spans) channels

abbrev pub has_all : QualitySet → Bool
has_all set = set.d && (set.m && (set.q && set.r))

-- rows are joined as a shelf joins them, and all qualities are asked for
abbrev pub merges_as_shelves : AvailQuery → Bool
merges_as_shelves q = q.merge_overlap && (not q.merge_quality && (not q.merge_rate && (q.gaps == 0 && has_all q.qualities)))

-- a shelf's span as a time span that no restriction touches
abbrev pub time_span_of : SpanValue → TimeSpan
time_span_of v = record {
  group = record { name = v.name; quality = Some v.quality; rate = Some v.rate };
  start = record { micros = v.start };
  last = record { micros = int_min (floor_at v.last.start v.last.k v.last.rate) (pos (2 ^ 63 - 1)) };
  updated = record { micros = v.updated };
  restricted = false;
}
