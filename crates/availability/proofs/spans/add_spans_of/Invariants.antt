use Rattle.std.proofs.Common.{◌≡◌, ◌++◌, ◌-◌, ◌≤◌, drop, length}
use Rattle.dataselect.proofs.GroupCuts.{spans_of}
use Rattle.availability.specs.Spans.{merging_of}
use Rattle.availability.proofs.Walked.{begin, grow}
use Rattle.availability.proofs.spans.add_spans_of.Given as goal

abbrev pub invariant-groups : goal.invariant-groups
invariant-groups g l = record {
  spans : l.spans ++ spans_of (merging_of l.query) (λ r. r.now.header) (begin (g.V.Sight.touched l.sight) l.query) (grow (g.V.Sight.touched l.sight) l.query) (drop l.begun l.rows)
      ≡ l.fn.spans ++ spans_of (merging_of l.query) (λ r. r.now.header) (begin (g.V.Sight.touched l.sight) l.query) (grow (g.V.Sight.touched l.sight) l.query) l.rows;
  within : l.begun ≤ length l.rows;
}

abbrev pub decreases-groups : goal.decreases-groups
decreases-groups g l = length l.rows - l.begun
