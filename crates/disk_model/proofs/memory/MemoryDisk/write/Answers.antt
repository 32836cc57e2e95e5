use Rattle.std.proofs.Common.{arith, rules}
use Rattle.disk_model.proofs.Past.{kept_wrote}
use Rattle.disk_model.proofs.memory.MemoryDisk.write.Goals as goal

pub invariant_of-self-2 : goal.invariant_of-self-2
invariant_of-self-2 c =
    let was = c.args.self.now in
    record {
      kept = kept_wrote was.first.value was.current.items was.base was.steps.items c.reserve.new.self.items c.push_reserved.new.self.items was.since was.moment was.kept c.in_ok-reserve.ensures.items c.put.new.file.items c.args.at c.args.bytes.now c.requires.inside (search rules) (search rules);
      room = omega (arith, c.in_ok-reserve.ensures.ok);
    }
