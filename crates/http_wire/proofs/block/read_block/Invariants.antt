use Rattle.std.proofs.Common.{length, ◌-◌, ◌≤◌}
use Rattle.http_wire.specs.Blocks.{NoBlock}
use Rattle.http_wire.specs.Taking.{TookMore, TakesOnlyIf, StopsAs}
use Rattle.http_wire.specs.declared.block.BlockEnd.TheVariants.{Ended}
use Rattle.streams.specs.Effects.{OnlyTakes}
use Rattle.http_wire.proofs.block.read_block.Given as goal

-- what was taken so far is held, no block ends in what was searched, and something was taken only where none ended in what was held at first
abbrev pub invariant-pieces : goal.invariant-pieces
invariant-pieces g l = record {
  within : l.seen ≤ length l.held;
  clear : NoBlock l.held l.seen;
  took : TookMore (g.L.Stream.view l.fn.link).left (g.L.Stream.view l.link).left l.fn.held l.held;
  waits : TakesOnlyIf (StopsAs l.limit l.fn.held Ended) (g.L.Stream.view l.fn.link).left (g.L.Stream.view l.link).left;
  takes : OnlyTakes (g.L.Stream.view l.fn.link) (g.L.Stream.view l.link) ⊥;
}

abbrev pub decreases-pieces : goal.decreases-pieces
decreases-pieces g l = l.limit - length l.held
