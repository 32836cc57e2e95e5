use Rattle.std.proofs.Common.{◌≡◌, ◌++◌, drop}
use Rattle.list_laws.specs.Breaks.{made_of_each}
use Rattle.list_laws.proofs.Passes.{pass}
use Rattle.dataselect.specs.Spans.{runs_in_group}
use Rattle.availability.specs.Spans.{merging_of}
use Rattle.availability.proofs.Walked.{begin, grow, over, moved}
use Rattle.availability.proofs.spans.add_spans.Given as goal

abbrev pub invariant-rows : goal.invariant-rows
invariant-rows g l =
    l.spans ++ pass (begin (g.V.Sight.touched l.sight) l.query) (grow (g.V.Sight.touched l.sight) l.query) (over (g.V.Sight.touched l.sight) l.query) (moved (g.V.Sight.touched l.sight) l.query) l.span l.reached (drop l.row-index l.row-items)
    ≡ l.fn.spans ++ made_of_each (begin (g.V.Sight.touched l.sight) l.query) (grow (g.V.Sight.touched l.sight) l.query) (runs_in_group (merging_of l.query) (λ r. r.now.header) l.rows)
