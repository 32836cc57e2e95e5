use Rattle.std.proofs.Common.{length, refl, arith}
use Rattle.std.proofs.lemmas.Bool.{false≢true}
use Rattle.disk_model.specs.declared.change.Change.TheVariants.{Wrote}
use Rattle.disk_model.proofs.MemoryCalls.{same_then_changed, write_effect, torn_change, tear_effect}
use Rattle.disk_model.proofs.memory.MemoryDiskDisk.write_at.Goals as goal

pub returns-in-Ok-clause-told : goal.returns-in-Ok-clause-told
returns-in-Ok-clause-told c = record {
  tells = refl;
  later = omega arith;
  cause = λ failed. absurd (false≢true failed);
  told = λ told. write_effect tt c.args.self.now c.write.new.self c.args.at c.args.bytes.now c.requires (same_then_changed (Wrote c.args.at c.args.bytes.now) c.args.self.now c.is_failing-is_failing.new.self c.write.new.self c.is_failing-is_failing.ensures.same c.in-Ok.ensures.ok);
}

pub returns-then-is_failing-clause-told : goal.returns-then-is_failing-clause-told
returns-then-is_failing-clause-told c = record {
  tells = refl;
  later = omega arith;
  cause = λ failed. omega arith;
  told = λ told. tear_effect c.refuse-then-is_failing.result c.args.at c.args.bytes.now c.args.self.now c.refuse-then-is_failing.new.self c.requires (torn_change c.args.at (length c.args.bytes.now) c.args.self.now c.is_failing-is_failing.new.self c.tear.new.self c.refuse-then-is_failing.new.self c.is_failing-is_failing.ensures.same c.tear.ensures.torn c.refuse-then-is_failing.ensures.same);
}
