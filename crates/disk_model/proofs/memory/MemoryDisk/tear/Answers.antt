use Rattle.std.proofs.Common.{refl, arith}
use Rattle.disk_model.proofs.Past.{kept_tore}
use Rattle.disk_model.proofs.memory.MemoryDisk.tear.Goals as goal

pub invariant_of-self : goal.invariant_of-self
invariant_of-self c =
    let was = c.args.self.now in
    record {
      kept = kept_tore was.first.value was.current.items was.base was.steps.items was.steps.items c.push_reserved.new.self.items was.since was.moment was.kept refl c.args.at c.args.len c.requires.inside c.push_reserved.ensures.items;
      room = omega arith;
    }
