use Rattle.std.proofs.Common.{arith, rules}
use Rattle.disk_model.proofs.Past.{kept_synced}
use Rattle.disk_model.proofs.memory.MemoryDisk.settle.Goals as goal

pub invariant_of-self-2 : goal.invariant_of-self-2
invariant_of-self-2 c =
    let was = c.args.self.now in
    record {
      kept = kept_synced was.first.value was.current.items was.base was.steps.items c.reserve.new.self.items c.push_reserved.new.self.items was.since was.moment was.kept c.in_ok-reserve.ensures.items c.extend.new.self c.len-self.result (search rules) (search rules) c.push_reserved.ensures.items;
      room = omega (arith, c.in_ok-reserve.ensures.ok);
    }
