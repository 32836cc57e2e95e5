use Rattle.std.proofs.Common.{◌-◌, max, List, ◌∷◌}
use Rattle.coverage_report.specs.Sweep.{AreBehind, IsSameWalk, KeepsLines}
use Rattle.coverage_report.specs.declared.stretch.Stretch.{Stretch}
use Rattle.coverage_report.proofs.sweep.add_stretch.Given as goal

abbrev pub invariant-parts : goal.invariant-parts
invariant-parts l = record {
  same : IsSameWalk l.walk l.next;
  kept : (rest : List Stretch) → AreBehind l.stretch rest → KeepsLines l.fn.lines l.walk (l.stretch ∷ rest) l.lines l.next (l.stretch ∷ rest);
}

abbrev pub decreases-parts : goal.decreases-parts
decreases-parts l = l.stretch.end - max l.next.behind l.stretch.start
