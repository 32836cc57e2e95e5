use Rattle.std.proofs.Common.{◌∙◌, sym, ap, Bor}
use Rattle.mseed_header.specs.declared.row.Row.{Row}
use Rattle.dataselect.specs.MergedSpans.{by_quality_and_rate, span_at, longer}
use Rattle.dataselect.specs.SpanOrder.{rows_ranked}
use Rattle.dataselect.proofs.GroupCuts.{spans_of, spans_mapped}
use Rattle.dataselect.proofs.GroupPass.{begin, grow}
use Rattle.dataselect.proofs.SpanRanks.{ranked_in_order}
use Rattle.dataselect.proofs.spans.spans_ranked.Goals as goal

pub returns : goal.returns
returns c = λ name keys.
    let now : Bor Row → Row = λ r. r.now in
    c.in_ok-spans.ensures
    ∙ ap (spans_of by_quality_and_rate (λ r. r.now.header) begin grow) c.as_slice.ensures
    ∙ sym (spans_mapped now span_at longer by_quality_and_rate (λ row. row.header) c.in_ok-ranked.ranked)
    ∙ ap (spans_of by_quality_and_rate (λ row. row.header) span_at longer)
    (c.in_ok-ranked.ensures ∙ ap (rows_ranked c.args.rows.now) keys ∙ ranked_in_order name c.args.rows.now)
