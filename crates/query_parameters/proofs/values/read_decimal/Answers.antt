use Rattle.std.proofs.Common.{Err}
use Rattle.query_parameters.proofs.Minimums.{no_decimal}
use Rattle.query_parameters.proofs.values.read_decimal.Goals as goal

pub returns-in-Err : goal.returns-in-Err
returns-in-Err c = record { exact = λ n h. no_decimal c.args.text.now (Err c.in-Err.field-0) c.in-Err.ensures.exact (λ d e. cc) n h }
