use Rattle.std.proofs.Common.{take}
use Rattle.centre_select.proofs.Written.{front_cut}
use Rattle.centre_select.proofs.output.put_row.Goals as goal

pub returns-in_err-put_all : goal.returns-in_err-put_all
returns-in_err-put_all g c =
    let waited = take c.args.chunk.now.used c.args.chunk.now.bytes in
    front_cut (g.K.Stream.view c.args.sink.now) (g.K.Stream.view c.put_all.new.sink) _ c.from_residual.result waited c.args.image.now waited c.from_residual.ensures.0 (rw c.as_slice.ensures at c.in_err-put_all.ensures)
