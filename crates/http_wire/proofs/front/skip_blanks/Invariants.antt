use Rattle.std.proofs.Common.{◌-◌, ◌<◌, ◌^◌}
use Rattle.http_wire.specs.Taking.{LetGo, TakesOnlyIf, IsCutFront}
use Rattle.streams.specs.Effects.{OnlyTakes}
use Rattle.http_wire.proofs.front.skip_blanks.Given as goal

abbrev pub invariant-pieces : goal.invariant-pieces
invariant-pieces g l = record {
  gone : LetGo (g.L.Stream.view l.fn.link).left (g.L.Stream.view l.link).left l.fn.held l.skipped l.held;
  small : l.skipped < 2 ^ 32;
  below : l.skipped < l.limit;
  waits : TakesOnlyIf (IsCutFront l.limit l.fn.held) (g.L.Stream.view l.fn.link).left (g.L.Stream.view l.link).left;
  takes : OnlyTakes (g.L.Stream.view l.fn.link) (g.L.Stream.view l.link) ⊥;
}

abbrev pub decreases-pieces : goal.decreases-pieces
decreases-pieces g l = l.limit - l.skipped
