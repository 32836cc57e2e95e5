use Rattle.std.proofs.Common.{◌≡◌, ◌+◌, true, List, ℕ, arith, ap, sym, ◌∙◌}
use Rattle.disk_model.specs.Sound.{waiting}
use Rattle.disk_model.specs.Calls.{is_numbered}
use Rattle.disk_model.proofs.Room.{waiting_later, waiting_met}
use Rattle.disk_model.proofs.memory.MemoryDisk.is_failing.Goals as goal

pub invariant_of-self-clause-room : goal.invariant_of-self-clause-room
invariant_of-self-clause-room c =
    let was = c.args.self.now in
    omega (arith, was.room, waiting_later was.calls c.saturating_add-self.result was.fails.items (omega arith))

pub returns-then-has_number-clause-room : goal.returns-then-has_number-clause-room
returns-then-has_number-clause-room c is =
    let was = c.args.self.now in
    let fails = was.fails.items in
    let next : c.saturating_add-self.result ≡ was.calls + 1 = omega arith in
    let met : is_numbered (was.calls + 1) fails ≡ true =
    ap (λ call. is_numbered call fails) (sym next) ∙ ap (λ (l : List ℕ). is_numbered c.saturating_add-self.result l) (sym c.deref.ensures.value) ∙ sym c.contains.ensures.value ∙ is in
    let less : waiting c.saturating_add-self.result fails ≡ waiting (was.calls + 1) fails = ap (λ calls. waiting calls fails) next in
    omega (arith, was.room, less, waiting_met was.calls fails met)
