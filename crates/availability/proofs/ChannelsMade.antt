-- The spans of the rows of a name have that name; one channel more.
use Rattle.std.proofs.Common.{◌≡◌, Bool, true, List, [], ◌∷◌, ◌++◌, ap, ◌∙◌, append-nil}
use Rattle.std.specs.List.{AllByRecursion}
use Rattle.std.proofs.lemmas.Bool.{and_parts}
use Rattle.std.proofs.lemmas.Grind.{flat_map-append}
use Rattle.channel_globs.specs.declared.nslc.Nslc.{Nslc}
use Rattle.mseed_header.specs.declared.row.Row.{Row}
use Rattle.dataselect.specs.MergedSpans.{has_name}
use Rattle.dataselect.specs.Spans.{rows_in_order, span_runs}
use Rattle.dataselect.proofs.Parts.{all_rows_in_order, all_span_runs, all_made}
use Rattle.dataselect.proofs.Rises.{same_names}
use Rattle.dataselect.proofs.Splits.{all_append}
use Rattle.query_words.specs.declared.avail.AvailQuery.{AvailQuery}
use Rattle.availability.specs.declared.channel.ChannelSpans.{ChannelSpans}
use Rattle.availability.specs.declared.span.TimeSpan.{TimeSpan}
use Rattle.availability.specs.Channels.{is_asked_of, spans_named, all_spans, AreNamed}
use Rattle.availability.specs.Spans.{merging_of, passes, span_at, longer}

pub all_of_name : (seen touched : Row → Bool) (q : AvailQuery) (rows : List Row) (name : Nslc) → AllByRecursion (λ s. s.group.name ≡ name) (spans_named seen touched q rows name)
all_of_name seen touched q rows name =
    let m = merging_of q in
    let test = is_asked_of seen q name in
    all_made (λ row. has_name name row ≡ true) (λ s. s.group.name ≡ name) (span_at touched q) (longer touched) (λ row h. same_names row.header.name name h) (λ s row h k. h)
    (span_runs m (λ row. row.header) (rows_in_order m test rows))
    (all_span_runs (λ row. has_name name row ≡ true) m (λ row. row.header) (rows_in_order m test rows)
    (all_rows_in_order (λ row. has_name name row ≡ true) test (λ row h. (and_parts (has_name name row) (passes seen q row) h).0) m rows))

pub spans_more : (channels : List ChannelSpans) (c : ChannelSpans) → all_spans (channels ++ c ∷ []) ≡ all_spans channels ++ c.spans
spans_more channels c = flat_map-append (λ (x : ChannelSpans). x.spans) channels (c ∷ []) ∙ ap (λ (ss : List TimeSpan). all_spans channels ++ ss) (append-nil c.spans)

pub named_more : (channels : List ChannelSpans) (c : ChannelSpans) → AreNamed channels → AllByRecursion (λ s. s.group.name ≡ c.name) c.spans → AreNamed (channels ++ c ∷ [])
named_more channels c named all = all_append (λ (x : ChannelSpans). AllByRecursion (λ s. s.group.name ≡ x.name) x.spans) channels (c ∷ []) named (all, tt)
