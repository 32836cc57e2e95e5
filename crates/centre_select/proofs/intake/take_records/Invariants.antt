use Rattle.std.proofs.Common.{◌-◌}
use Rattle.streams.specs.Effects.{OnlyTakes}
use Rattle.centre_select.specs.Limits.{most_input}
use Rattle.centre_select.proofs.Shelved.{IsTaken}
use Rattle.centre_select.proofs.intake.take_records.Given as goal

-- the pieces so far were taken, and cut as far as they go
abbrev pub invariant-pieces : goal.invariant-pieces
invariant-pieces g l = record {
  taken : IsTaken l.query (g.S.Stream.view l.fn.source).left (g.S.Stream.view l.source).left l.total l.intake.rest l.intake.place l.intake.fault (g.H.Shelf.rows l.shelf);
  takes : OnlyTakes (g.S.Stream.view l.fn.source) (g.S.Stream.view l.source) ⊥;
}

abbrev pub decreases-pieces : goal.decreases-pieces
decreases-pieces g l = most_input - l.total
