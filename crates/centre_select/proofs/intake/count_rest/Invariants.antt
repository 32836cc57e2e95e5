use Rattle.std.proofs.Common.{◌-◌}
use Rattle.streams.specs.Effects.{OnlyTakes}
use Rattle.centre_select.specs.Limits.{most_input}
use Rattle.centre_select.proofs.Counting.{IsCounted}
use Rattle.centre_select.proofs.intake.count_rest.Given as goal

-- the pieces so far were counted
abbrev pub invariant-pieces : goal.invariant-pieces
invariant-pieces g l = record {
  counted : IsCounted (g.S.Stream.view l.fn.source).left (g.S.Stream.view l.source).left l.total l.counted;
  takes : OnlyTakes (g.S.Stream.view l.fn.source) (g.S.Stream.view l.source) ⊥;
}

abbrev pub decreases-pieces : goal.decreases-pieces
decreases-pieces g l = most_input - l.counted
