use Rattle.std.proofs.Common.{◌≡◌, length, arith, ap, ◌∙◌}
use Rattle.http_wire.specs.Taking.{skip_blank}
use Rattle.http_wire.proofs.FrontSteps.{skipped_now}
use Rattle.http_wire.proofs.front.skip_piece.Goals as goal

pub returns-clause-skipped : goal.returns-clause-skipped
returns-clause-skipped g c =
    let held = c.hold_some.new.held in
    let left : c.skip_blank.result.now ≡ skip_blank held = c.skip_blank.ensures.same ∙ ap skip_blank c.as_slice.ensures in
    skipped_now _ _ _ held _ _ c.in_ok-hold_some.ensures.took c.in_ok-hold_some.ensures.end (omega (arith, c.len.ensures, ap length left)) c.drop_front.ensures
