use Rattle.std.proofs.Common.{◌≡◌, ◌+◌, ◌≤◌, ◌++◌, drop, map}
use Rattle.list_laws.specs.Breaks.{made_of_each}
use Rattle.list_laws.proofs.Passes.{pass}
use Rattle.dataselect.specs.Spans.{runs_in_group}
use Rattle.dataselect.specs.MergedSpans.{by_quality_and_rate, value_of}
use Rattle.dataselect.proofs.GroupPass.{begin, grow, is_behind, farther}
use Rattle.dataselect.proofs.spans.add_spans.Given as goal

abbrev pub invariant-rows : goal.invariant-rows
invariant-rows l = record {
  spans : map value_of l.spans ++ pass begin grow is_behind farther (value_of l.span) l.far (drop l.row-index l.row-items)
      ≡ map value_of l.fn.spans ++ made_of_each begin grow (runs_in_group by_quality_and_rate (λ r. r.now.header) l.rows);
  few : l.span.rows ≤ l.row-index + 1;
}
