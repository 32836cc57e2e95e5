use Rattle.std.proofs.Common.{arith}
use Rattle.mseed_header.proofs.Batches.{image_size}
use Rattle.centre_drill.proofs.figures.row_bytes.Goals as goal

pub returns-clause-bound : goal.returns-clause-bound
returns-clause-bound c = omega (arith, image_size c.args.row.now, c.len.ensures)
