use Rattle.streams.proofs.Grows.{put_more, put_no_more}
use Rattle.streams.proofs.transfer.put_all.Goals as goal

pub returns-in_err-done : goal.returns-in_err-done
returns-in_err-done g c =
    put_no_more _ _ _ c.args.bytes.now c.pieces.done c.from_residual.result c.from_residual.ensures.0 c.pieces.invariant.so_far c.in_err-done.ensures

pub pieces-preserved : goal.pieces-preserved
pieces-preserved g c =
    let more = put_more _ _ _ c.args.bytes.now c.pieces.done c.in_ok-done.field-0 c.pieces.invariant.within c.pieces.invariant.so_far c.in_ok-done.ensures in
    record { within = more.0; so_far = more.1 }
