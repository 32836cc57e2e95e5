use Rattle.std.proofs.Common.{refl, arith}
use Rattle.std.proofs.lemmas.Bool.{false≢true}
use Rattle.disk_model.specs.declared.change.Change.TheVariants.{Cut}
use Rattle.disk_model.proofs.MemoryCalls.{same_then_changed, cut_effect}
use Rattle.disk_model.proofs.memory.MemoryDiskDisk.cut.Goals as goal

pub returns-in-Ok-clause-told : goal.returns-in-Ok-clause-told
returns-in-Ok-clause-told c = record {
  tells = refl;
  later = omega arith;
  cause = λ failed. absurd (false≢true failed);
  told = λ told. cut_effect tt c.args.self.now c.shorten.new.self c.args.len (same_then_changed (Cut c.args.len) c.args.self.now c.is_failing.new.self c.shorten.new.self c.is_failing.ensures.same c.in-Ok.ensures.ok);
}
