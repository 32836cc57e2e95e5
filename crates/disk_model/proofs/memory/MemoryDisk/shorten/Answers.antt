use Rattle.std.proofs.Common.{arith}
use Rattle.disk_model.proofs.Past.{kept_cut}
use Rattle.disk_model.proofs.memory.MemoryDisk.shorten.Goals as goal

pub invariant_of-self-2 : goal.invariant_of-self-2
invariant_of-self-2 c =
    let was = c.args.self.now in
    record {
      kept = kept_cut was.first.value was.current.items was.base was.steps.items c.reserve.new.self.items c.push_reserved.new.self.items was.since was.moment was.kept c.in_ok-reserve.ensures.items c.truncate.new.self.items c.args.len c.requires.inside c.truncate.ensures.items c.push_reserved.ensures.items;
      room = omega (arith, c.in_ok-reserve.ensures.ok);
    }
