use Rattle.std.proofs.Common.{◌∙◌, ◌++◌, ap, sym, Bor}
use Rattle.mseed_header.specs.declared.row.Row.{Row}
use Rattle.dataselect.proofs.GroupCuts.{spans_of, spans_mapped}
use Rattle.availability.specs.Spans.{merging_of, span_at, longer, spans_in}
use Rattle.availability.proofs.channels.spans_made.Goals as goal

pub returns : goal.returns
returns g c =
    let touched = g.V.Sight.touched c.args.sight.now in
    let q = c.args.query.now in
    let now : Bor Row → Row = λ r. r.now in
    c.in_ok-add_spans_of.ensures.ok
    ∙ (λ i. c.new-spans.ensures i ++ spans_in now touched q (c.as_slice.ensures i))
    ∙ sym (spans_mapped now (span_at touched q) (longer touched) (merging_of q) (λ row. row.header) c.in_ok-rows.rows)
    ∙ ap (spans_of (merging_of q) (λ row. row.header) (span_at touched q) (longer touched)) c.in_ok-rows.ensures
