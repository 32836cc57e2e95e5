use Rattle.std.proofs.Common.{◌≤◌, arith}
use Rattle.disk_model.proofs.Past.{kept_later}
use Rattle.disk_model.proofs.memory.MemoryDisk.refuse.Goals as goal

pub invariant_of-self : goal.invariant_of-self
invariant_of-self c =
    let was = c.args.self.now in
    let later : was.moment ≤ c.saturating_add-self.result = omega arith in
    record { kept = kept_later was.first.value was.current.items was.base was.steps.items was.since was.moment c.saturating_add-self.result later was.kept; room = was.room }
