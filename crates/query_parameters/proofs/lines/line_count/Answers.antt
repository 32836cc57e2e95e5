use Rattle.std.proofs.Common.{arith}
use Rattle.query_parameters.proofs.lines.line_count.Goals as goal

pub lines-init : goal.lines-init
lines-init c = record { counted = (1, omega arith); room = omega arith }
