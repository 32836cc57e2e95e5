use Rattle.std.proofs.Common.{◌≡◌, take, length, length-take-le, sym, rules, ap, ℕ, []}
use Rattle.std.proofs.lemmas.Result.{IfErr-weaker, err_from_is_err_and}
use Rattle.centre_select.specs.Intake.{IsLasting, IsRestRefused, IntakeStops}
use Rattle.streams.proofs.GoingOn.{takes_then}
use Rattle.centre_select.proofs.Counting.{counted_bad, stops_intake}
use Rattle.centre_select.proofs.Shelved.{taken_none, taken_bad, taken_more}
use Rattle.centre_select.proofs.intake.take_records.Goals as goal

pub returns-in_err-count-clause-stops : goal.returns-in_err-count-clause-stops
returns-in_err-count-clause-stops g c =
    let is = err_from_is_err_and c.from_residual.result c.from_residual.ensures.1 in
    let here = stops_intake c.args.query.now (g.S.Stream.view c.args.source.now) (g.S.Stream.view c.pieces.source) (g.S.Stream.view c.next_piece.new.source) c.pieces.total c.pieces.intake.rest c.pieces.intake.place c.pieces.intake.fault
    (g.H.Shelf.rows c.pieces.shelf) c.in_err-count.field-0.0 c.pieces.invariant.taken c.pieces.invariant.takes c.in_err-count.ensures.stops in
    rw (is.1, is.2) here

pub returns-then-count-eq0-clause-stops : goal.returns-then-count-eq0-clause-stops
returns-then-count-eq0-clause-stops g c =
    let old = g.S.Stream.view c.args.source.now in
    let new = g.S.Stream.view c.next_piece.new.source in
    let piece = take c.in_ok-count.count c.next_piece.new.piece in
    let none : take c.in_ok-count.count c.next_piece.new.piece ≡ [] = ap (λ (n : ℕ). take n c.next_piece.new.piece) c.if-count-eq0.true in
    let far = taken_none c.args.query.now old.left (g.S.Stream.view c.pieces.source).left new.left c.pieces.total c.pieces.intake.rest piece c.pieces.intake.place c.pieces.intake.fault (g.H.Shelf.rows c.pieces.shelf)
    c.in_ok-count.ensures.bytes none c.pieces.invariant.taken in
    IfErr-weaker c.end_of.result (IsRestRefused c.pieces.intake.rest c.pieces.total) (IntakeStops old new)
    (λ stop bad. taken_bad c.args.query.now old new c.pieces.total c.pieces.intake.rest c.pieces.intake.place c.pieces.intake.fault (g.H.Shelf.rows c.pieces.shelf) stop (c.in_ok-count.ensures.end c.if-count-eq0.true) bad far) c.end_of.ensures.err

pub pieces-preserved : goal.pieces-preserved
pieces-preserved g c =
    let piece = take c.in_ok-count.count c.next_piece.new.piece in
    let bound = c.in_ok-count.ensures.bound in
    let size : c.in_ok-count.count ≡ length piece = sym (length-take-le c.in_ok-count.count c.next_piece.new.piece bound) in
    record {
      taken = taken_more c.args.query.now (g.S.Stream.view c.args.source.now).left (g.S.Stream.view c.pieces.source).left (g.S.Stream.view c.next_piece.new.source).left c.pieces.total c.in_ok-count.count c.pieces.intake.rest piece c.take.new.self.rest c.pieces.intake.place c.take.new.self.place c.pieces.intake.fault c.take.new.self.fault (g.H.Shelf.rows c.pieces.shelf) (g.H.Shelf.rows c.take.new.shelf)
          c.in_ok-count.ensures.bytes size c.in_ok-count.ensures.within c.in_ok-take.ensures.passes c.in_ok-take.ensures.fault c.pieces.invariant.taken;
      takes = takes_then _ _ _ c.pieces.invariant.takes c.next_piece.ensures.takes absurd;
    }

pub returns-in_err-count_rest-clause-stops : goal.returns-in_err-count_rest-clause-stops
returns-in_err-count_rest-clause-stops g c =
    let is = err_from_is_err_and c.from_residual-in_err-count_rest.result c.from_residual-in_err-count_rest.ensures.1 in
    let here = stops_intake c.args.query.now (g.S.Stream.view c.args.source.now) (g.S.Stream.view c.pieces.source) (g.S.Stream.view c.count_rest.new.source) c.pieces.total c.pieces.intake.rest c.pieces.intake.place c.pieces.intake.fault
    (g.H.Shelf.rows c.pieces.shelf) c.in_err-count_rest.field-0.0 c.pieces.invariant.taken c.pieces.invariant.takes c.in_err-count_rest.ensures.stops in
    rw (is.1, is.2) here

pub returns-clause-stops : goal.returns-clause-stops
returns-clause-stops g c =
    let old = g.S.Stream.view c.args.source.now in
    let new = g.S.Stream.view c.count_rest.new.source in
    let lasting : IsLasting c.pieces.intake.fault = c.is_lasting.ensures.0 (search rules) in
    IfErr-weaker c.end_of-2.result (IsRestRefused c.pieces.intake.rest c.pieces.total) (IntakeStops old new)
    (λ stop bad. counted_bad c.args.query.now old (g.S.Stream.view c.pieces.source) new c.pieces.total c.pieces.intake.rest c.pieces.intake.place c.pieces.intake.fault (g.H.Shelf.rows c.pieces.shelf) stop lasting c.in_ok-count_rest.ensures.counted c.pieces.invariant.taken bad) c.end_of-2.ensures.err
