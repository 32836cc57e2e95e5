use Rattle.std.proofs.Common.{arith, length, ap, sym, ◌∙◌, rules}
use Rattle.disk_model.proofs.Past.{kept_new, synced_new}
use Rattle.disk_model.proofs.Room.{waiting_within}
use Rattle.disk_model.proofs.memory.MemoryDisk.new.Goals as goal

pub invariant_of-result-clause-kept : goal.invariant_of-result-clause-kept
invariant_of-result-clause-kept c =
    kept_new c.of.result.value c.args.bytes c.in_ok-current.current.items c.in_ok-steps.steps.items c.of.ensures (search rules) c.in_ok-steps.ensures.items

pub invariant_of-result-clause-room : goal.invariant_of-result-clause-room
invariant_of-result-clause-room c =
    omega (arith, c.in_ok-steps.ensures.len, c.in_ok-steps.ensures.capacity, waiting_within 0 c.len.result c.into_vec.result.items (c.len.ensures ∙ ap length (sym c.into_vec.ensures)))

pub returns-clause-synced : goal.returns-clause-synced
returns-clause-synced c = synced_new c.of.result.value c.args.bytes c.in_ok-steps.steps.items c.of.ensures c.in_ok-steps.ensures.items
