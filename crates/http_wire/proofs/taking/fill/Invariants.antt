use Rattle.std.proofs.Common.{length, ◌-◌, ◌<◌}
use Rattle.http_wire.specs.Taking.{TookMore, TakesOnlyIf}
use Rattle.streams.specs.Effects.{OnlyTakes}
use Rattle.http_wire.proofs.taking.fill.Given as goal

-- what was taken so far is held, and something was taken only where too little was held at first
abbrev pub invariant-pieces : goal.invariant-pieces
invariant-pieces g l = record {
  took : TookMore (g.L.Stream.view l.fn.link).left (g.L.Stream.view l.link).left l.fn.held l.held;
  waits : TakesOnlyIf (length l.fn.held < l.size) (g.L.Stream.view l.fn.link).left (g.L.Stream.view l.link).left;
  takes : OnlyTakes (g.L.Stream.view l.fn.link) (g.L.Stream.view l.link) ⊥;
}

abbrev pub decreases-pieces : goal.decreases-pieces
decreases-pieces g l = l.size - length l.held
