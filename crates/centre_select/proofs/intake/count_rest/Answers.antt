use Rattle.std.proofs.Common.{◌≡◌, ℕ, [], take, length, length-take-le, sym, ap}
use Rattle.std.proofs.lemmas.Result.{err_from_is_err_and}
use Rattle.streams.proofs.GoingOn.{takes_then}
use Rattle.centre_select.proofs.Counting.{counted_all, counted_more, stops_behind}
use Rattle.centre_select.proofs.intake.count_rest.Goals as goal

pub returns-in_err-count-clause-stops : goal.returns-in_err-count-clause-stops
returns-in_err-count-clause-stops g c =
    let is = err_from_is_err_and c.from_residual.result c.from_residual.ensures.1 in
    let old = g.S.Stream.view c.args.source.now in
    let new = g.S.Stream.view c.next_piece.new.source in
    let here = stops_behind old (g.S.Stream.view c.pieces.source) new c.args.total c.pieces.counted c.in_err-count.field-0.0 c.pieces.invariant.counted c.pieces.invariant.takes c.in_err-count.ensures.stops in
    rw (is.1, is.2) here

pub returns-then-count-eq0-clause-counted : goal.returns-then-count-eq0-clause-counted
returns-then-count-eq0-clause-counted g c =
    let none : take c.in_ok-count.count c.next_piece.new.piece ≡ [] = ap (λ (n : ℕ). take n c.next_piece.new.piece) c.if-count-eq0.true in
    counted_all (g.S.Stream.view c.args.source.now).left (g.S.Stream.view c.pieces.source).left (g.S.Stream.view c.next_piece.new.source).left c.args.total c.pieces.counted (take c.in_ok-count.count c.next_piece.new.piece)
    c.in_ok-count.ensures.bytes none (c.in_ok-count.ensures.end c.if-count-eq0.true) c.pieces.invariant.counted

pub pieces-preserved : goal.pieces-preserved
pieces-preserved g c =
    let piece = take c.in_ok-count.count c.next_piece.new.piece in
    let bound = c.in_ok-count.ensures.bound in
    let size : c.in_ok-count.count ≡ length piece = sym (length-take-le c.in_ok-count.count c.next_piece.new.piece bound) in
    record {
      counted = counted_more (g.S.Stream.view c.args.source.now).left (g.S.Stream.view c.pieces.source).left (g.S.Stream.view c.next_piece.new.source).left c.args.total c.pieces.counted c.in_ok-count.count piece
          c.in_ok-count.ensures.bytes size c.in_ok-count.ensures.within c.pieces.invariant.counted;
      takes = takes_then _ _ _ c.pieces.invariant.takes c.next_piece.ensures.takes absurd;
    }
