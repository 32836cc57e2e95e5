use Rattle.std.proofs.Common.{length, ◌-◌}
use Rattle.http_wire.specs.Taking.{TookMore}
use Rattle.streams.specs.Effects.{OnlyTakes}
use Rattle.http_answers.proofs.reading.take_line.Given as goal

-- what was taken so far is held
abbrev pub invariant-pieces : goal.invariant-pieces
invariant-pieces g l = record {
  took : TookMore (g.L.Stream.view l.fn.link).left (g.L.Stream.view l.link).left l.fn.held l.held;
  takes : OnlyTakes (g.L.Stream.view l.fn.link) (g.L.Stream.view l.link) ⊥;
}

abbrev pub decreases-pieces : goal.decreases-pieces
decreases-pieces g l = 16384 - length l.held
