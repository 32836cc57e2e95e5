use Rattle.std.proofs.Common.{◌≡◌, ◌∙◌, List, IfOk, map, ap, sym, subst}
use Rattle.std.proofs.lemmas.Simd.{map-map}
use Rattle.dataselect.specs.MergedSpans.{value_of}
use Rattle.dataselect.specs.declared.span.Span.{Span}
use Rattle.availability.specs.declared.span.TimeSpan.{TimeSpan}
use Rattle.availability.specs.Channels.{time_span_of}
use Rattle.availability.proofs.channels.spans_told.Goals as goal

pub returns : goal.returns
returns g c =
    subst (λ (list : List TimeSpan). IfOk c.time_spans.result (λ spans. spans ≡ list))
    (ap (map (λ (s : Span). time_span_of (value_of s))) c.as_slice.ensures
    ∙ sym (map-map time_span_of value_of c.in_ok-merged.merged)
    ∙ ap (map time_span_of) c.in_ok-merged.ensures)
    c.time_spans.ensures
