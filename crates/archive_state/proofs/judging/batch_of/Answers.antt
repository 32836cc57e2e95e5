use Rattle.std.proofs.Common.{sym, arith}
use Rattle.archive_entry.proofs.Readings.{batch_is}
use Rattle.archive_state.proofs.judging.batch_of.Goals as goal

pub returns-clause-value : goal.returns-clause-value
returns-clause-value c = sym (batch_is c.args.body.now c.count_records.result (λ i. omega (arith, c.type_inv.body i)) c.count_records.ensures.exact)
