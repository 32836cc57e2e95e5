use Rattle.std.proofs.Common.{◌≡◌, ◌+◌, ◌-◌, drop}
use Rattle.dataselect.specs.Runs.{run_len_by}
use Rattle.dataselect.specs.Spans.{is_other_group}
use Rattle.availability.specs.Spans.{merging_of}
use Rattle.availability.proofs.spans.group_len.Given as goal

abbrev pub invariant-rows : goal.invariant-rows
invariant-rows l =
    run_len_by (λ a b. is_other_group (merging_of l.query) a.now.header b.now.header) l.rows
    ≡ (l.i - 1) + run_len_by (λ a b. is_other_group (merging_of l.query) a.now.header b.now.header) (drop (l.i - 1) l.rows)
