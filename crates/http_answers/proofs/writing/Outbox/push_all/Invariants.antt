use Rattle.std.proofs.Common.{take}
use Rattle.std.specs.Prelude.{flat_map}
use Rattle.http_answers.specs.Sending.{Sent}
use Rattle.http_answers.proofs.writing.Outbox.push_all.Given as goal

-- the pieces so far were pushed
abbrev pub invariant-pieces : goal.invariant-pieces
invariant-pieces g l = Sent (g.L.Stream.view l.fn.link) (g.L.Stream.view l.link) l.fn.self l.self (flat_map (λ piece. piece.now) (take l.piece-index l.pieces))
