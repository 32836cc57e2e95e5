use Rattle.std.proofs.Common.{arith}
use Rattle.query_parameters.proofs.SelectionSteps.{six_are}
use Rattle.query_parameters.proofs.selections.six_of.Goals as goal

pub returns : goal.returns
returns c = six_are c.args.fields.now (omega (arith, c.in-len6.len_at_least)) (omega (arith, c.in-len6.len_below))
