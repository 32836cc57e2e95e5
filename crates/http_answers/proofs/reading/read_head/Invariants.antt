use Rattle.std.proofs.Common.{length, ◌-◌, ◌+◌}
use Rattle.std.specs.Prelude.{if◌then◌else◌}
use Rattle.http_wire.specs.Taking.{TookMore}
use Rattle.streams.specs.Effects.{OnlyTakes}
use Rattle.http_answers.specs.Reading.{EndedIf}
use Rattle.http_answers.proofs.reading.read_head.Given as goal

-- what was taken so far is held, and where the input has ended nothing is left
abbrev pub invariant-lines : goal.invariant-lines
invariant-lines g l = record {
  took : TookMore (g.L.Stream.view l.fn.link).left (g.L.Stream.view l.link).left l.fn.held l.held;
  ended : EndedIf l.ended (g.L.Stream.view l.link).left;
  takes : OnlyTakes (g.L.Stream.view l.fn.link) (g.L.Stream.view l.link) ⊥;
}

abbrev pub decreases-lines : goal.decreases-lines
decreases-lines g l = 16384 - length l.held + (if l.ended then 0 else 1)
