use Rattle.std.proofs.Common.{rules, ◌+◌, ◌≤◌, length, map}
use Rattle.dataselect.specs.MergedSpans.{by_quality_and_rate, value_of}
use Rattle.dataselect.proofs.GroupCuts.{next_within, next_len, next_made}
use Rattle.dataselect.proofs.GroupPass.{begin, grow}
use Rattle.dataselect.proofs.spans.spans_in.Goals as goal

pub slice_bounds-add_spans-end : goal.slice_bounds-add_spans-end
slice_bounds-add_spans-end c = next_len by_quality_and_rate (λ r. r.now.header) begin grow c.args.rows.now c.groups.begun c.group_len-len.result (search rules) c.group_len-len.ensures

pub overflow_add-begun : goal.overflow_add-begun
overflow_add-begun c =
    let le : c.groups.begun + c.group_len-len.result ≤ length c.args.rows.now = next_within by_quality_and_rate (λ r. r.now.header) begin grow c.args.rows.now c.groups.begun c.group_len-len.result (search rules) c.group_len-len.ensures in
    search rules

pub groups-preserved : goal.groups-preserved
groups-preserved c = record {
  spans = next_made by_quality_and_rate (λ r. r.now.header) begin grow c.args.rows.now c.groups.begun c.group_len-len.result (search rules) c.group_len-len.ensures (map value_of c.groups.spans) _ c.in_ok-add_spans.ensures.ok c.groups.invariant.spans;
  within = next_within by_quality_and_rate (λ r. r.now.header) begin grow c.args.rows.now c.groups.begun c.group_len-len.result (search rules) c.group_len-len.ensures;
}
