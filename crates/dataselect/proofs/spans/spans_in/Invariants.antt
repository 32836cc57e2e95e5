use Rattle.std.proofs.Common.{◌≡◌, ◌++◌, ◌-◌, ◌≤◌, map, drop, length}
use Rattle.dataselect.specs.MergedSpans.{by_quality_and_rate, value_of}
use Rattle.dataselect.proofs.GroupCuts.{spans_of}
use Rattle.dataselect.proofs.GroupPass.{begin, grow}
use Rattle.dataselect.proofs.spans.spans_in.Given as goal

abbrev pub invariant-groups : goal.invariant-groups
invariant-groups l = record {
  spans : map value_of l.spans ++ spans_of by_quality_and_rate (λ r. r.now.header) begin grow (drop l.begun l.rows) ≡ spans_of by_quality_and_rate (λ r. r.now.header) begin grow l.rows;
  within : l.begun ≤ length l.rows;
}

abbrev pub decreases-groups : goal.decreases-groups
decreases-groups l = length l.rows - l.begun
