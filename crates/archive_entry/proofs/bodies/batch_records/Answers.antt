use Rattle.std.proofs.Common.{arith}
use Rattle.archive_entry.proofs.Readings.{batch_is, batch_told}
use Rattle.archive_entry.proofs.bodies.batch_records.Goals as goal

pub returns-in-Ok-clause-reads : goal.returns-in-Ok-clause-reads
returns-in-Ok-clause-reads c = batch_told c.args.body.now _ (λ i. omega (arith, c.type_inv.body i)) c.in-Ok.ensures.exact

pub returns-in-Ok-clause-counted : goal.returns-in-Ok-clause-counted
returns-in-Ok-clause-counted c = record {
  count = batch_is c.args.body.now _ (λ i. omega (arith, c.type_inv.body i)) c.in-Ok.ensures.exact;
  few = c.in-Ok.ensures.few;
}

pub returns-in-Err-clause-reads : goal.returns-in-Err-clause-reads
returns-in-Err-clause-reads c = batch_told c.args.body.now _ (λ i. omega (arith, c.type_inv.body i)) c.in-Err.ensures.exact
