use Rattle.std.proofs.Common.{List, ℕ, Bor, refl}
use Rattle.http_answers.proofs.Sendings.{one_more, one_broke}
use Rattle.http_answers.proofs.writing.Outbox.push_all.Goals as goal

pub returns-in_err-push : goal.returns-in_err-push
returns-in_err-push g c =
    one_broke (λ (piece : Bor (List ℕ)). piece.now) _ _ _ _ _ _ c.args.pieces.now c.pieces.piece-index _ _ c.from_residual.result c.from_residual.ensures.0
    c.pieces-test.true refl c.pieces.invariant c.in_err-push.ensures.failed

pub pieces-preserved : goal.pieces-preserved
pieces-preserved g c =
    one_more (λ (piece : Bor (List ℕ)). piece.now) _ _ _ _ _ _ c.args.pieces.now c.pieces.piece-index _ _ c.pieces-test.true refl c.pieces.invariant
    c.in_ok-push.ensures.done
