use Rattle.std.proofs.Common.{◌≡◌, length, arith, ap, true, false}
use Rattle.std.proofs.lemmas.Bool.{false≢true}
use Rattle.streams.proofs.GoingOn.{takes_then}
use Rattle.http_wire.proofs.FrontSteps.{skip_on, let_go_then}
use Rattle.http_wire.proofs.Waiting.{blanks_wait}
use Rattle.http_wire.proofs.front.skip_blanks.Goals as goal

pub returns-then-count-eq0-clause-skipped : goal.returns-then-count-eq0-clause-skipped
returns-then-count-eq0-clause-skipped g c =
    skip_on c.args.limit _ _ _ _ c.pieces.held _ _ _ c.pieces.invariant.gone c.in_ok-count.ensures.skipped (λ none lt. omega (arith, c.if-count-eq0.true))

pub returns-then-not-is_empty-clause-skipped : goal.returns-then-not-is_empty-clause-skipped
returns-then-not-is_empty-clause-skipped g c =
    skip_on c.args.limit _ _ _ _ c.pieces.held _ _ _ c.pieces.invariant.gone c.in_ok-count.ensures.skipped (λ none lt.
    (let z : length c.skip_piece.new.held ≡ 0 = ap length none in
    let bad : false ≡ true = rw z at c.if-not-is_empty.ensures in absurd (false≢true bad)))

pub returns-then-limit-skipped-clause-skipped : goal.returns-then-limit-skipped-clause-skipped
returns-then-limit-skipped-clause-skipped g c =
    skip_on c.args.limit _ _ _ _ c.pieces.held _ _ _ c.pieces.invariant.gone c.in_ok-count.ensures.skipped (λ none lt. absurd (omega (arith, lt, c.if-limit-skipped.true)))

pub returns-in_err-count-clause-waits : goal.returns-in_err-count-clause-waits
returns-in_err-count-clause-waits g c = blanks_wait c.args.limit _ _ _ c.args.held.now c.pieces.held c.pieces.skipped c.pieces.invariant.gone c.pieces.invariant.below c.pieces.invariant.waits c.skip_piece.ensures.waits

pub returns-then-count-eq0-clause-waits : goal.returns-then-count-eq0-clause-waits
returns-then-count-eq0-clause-waits g c = blanks_wait c.args.limit _ _ _ c.args.held.now c.pieces.held c.pieces.skipped c.pieces.invariant.gone c.pieces.invariant.below c.pieces.invariant.waits c.skip_piece.ensures.waits

pub returns-then-not-is_empty-clause-waits : goal.returns-then-not-is_empty-clause-waits
returns-then-not-is_empty-clause-waits g c = blanks_wait c.args.limit _ _ _ c.args.held.now c.pieces.held c.pieces.skipped c.pieces.invariant.gone c.pieces.invariant.below c.pieces.invariant.waits c.skip_piece.ensures.waits

pub returns-then-limit-skipped-clause-waits : goal.returns-then-limit-skipped-clause-waits
returns-then-limit-skipped-clause-waits g c = blanks_wait c.args.limit _ _ _ c.args.held.now c.pieces.held c.pieces.skipped c.pieces.invariant.gone c.pieces.invariant.below c.pieces.invariant.waits c.skip_piece.ensures.waits

pub pieces-preserved : goal.pieces-preserved
pieces-preserved g c = record {
  gone = let_go_then _ _ _ _ c.pieces.held _ _ _ c.pieces.invariant.gone c.in_ok-count.ensures.skipped.gone;
  below = omega (arith, c.if-limit-skipped.false);
  waits = blanks_wait c.args.limit _ _ _ c.args.held.now c.pieces.held c.pieces.skipped c.pieces.invariant.gone c.pieces.invariant.below c.pieces.invariant.waits c.skip_piece.ensures.waits;
  small = (let a = c.requires.small in omega (arith, a, c.if-limit-skipped.false));
  takes = takes_then _ _ _ c.pieces.invariant.takes c.skip_piece.ensures.takes absurd;
}
