use Rattle.std.proofs.Common.{rules}
use Rattle.epochs.proofs.FieldSteps.{optional_refused}
use Rattle.epochs.proofs.values.read_optional.Goals as goal

pub returns-in-Err-clause-refused : goal.returns-in-Err-clause-refused
returns-in-Err-clause-refused c = optional_refused c.args.quantity c.args.number c.args.text.now c.in-Err.fault (search rules) c.in-Err.ensures.refused
