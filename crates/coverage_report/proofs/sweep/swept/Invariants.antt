use Rattle.std.specs.List.{AllByRecursion}
use Rattle.coverage_report.specs.Stretches.{IsStretch}
use Rattle.coverage_report.specs.Sweep.{StartsRise, IsSameWalk, KeepsLines}
use Rattle.coverage_report.proofs.sweep.swept.Given as goal

abbrev pub invariant-stretches : goal.invariant-stretches
invariant-stretches l = record {
  same : IsSameWalk l.walk l.next;
  kept : KeepsLines l.fn.lines l.walk l.stretches.keys l.lines l.next l.stretch-iterator;
  each : AllByRecursion (IsStretch l.walk.first.micros l.walk.days) l.stretch-iterator;
  rise : StartsRise l.stretch-iterator;
}
