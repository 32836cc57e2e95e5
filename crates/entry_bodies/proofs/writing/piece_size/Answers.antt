use Rattle.std.proofs.Common.{arith}
use Rattle.entry_bodies.proofs.Written.{piece_length}
use Rattle.entry_bodies.proofs.writing.piece_size.Goals as goal

pub returns : goal.returns
returns c = omega (arith, piece_length c.args.entry.now, c.len.ensures, c.len-2.ensures)
