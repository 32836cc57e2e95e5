use Rattle.std.proofs.Common.{◌≡◌, ◌⊎◌, inl, inr, ◌+◌, ◌<◌, length, drop, arith, refl, length-drop}
use Rattle.archive_journal.specs.Frames.{limit}
use Rattle.archive_journal.proofs.Heads.{frame_here, broken_here}
use Rattle.archive_journal.proofs.recover.next_gate.Goals as goal

pub returns-then-size-eq0-clause-next : goal.returns-then-size-eq0-clause-next
returns-then-size-eq0-clause-next c file is_head is_len =
    let size = c.from_be_bytes-size.result in
    let rest = drop c.args.at file in
    let fault : (size ≡ 0) ⊎ (limit < size) ⊎ (length rest < 5 + size) = elim c.then-size-eq0.either [
      | inl none ↦ inl none
      | inr (inl (some, over)) ↦ inr (inl over)
      | inr (inr (some, within, past)) ↦ inr (inr (omega (arith, past, is_len, length-drop c.args.at file)))
    ] in
    (refl, broken_here rest c.args.head.now is_head c.if-head-ne-OPEN.false c.if-head-lt5.false size c.from_be_bytes-size.ensures fault)

pub returns-clause-next : goal.returns-clause-next
returns-clause-next c file is_head is_len =
    frame_here (drop c.args.at file) c.args.head.now is_head c.if-head-ne-OPEN.false c.if-head-lt5.false c.from_be_bytes-size.result c.from_be_bytes-size.ensures c.args.at (λ i. omega (arith, c.type_inv.head i)) c.if-size-eq0.false c.if-size-gt-LIMIT.false (omega (arith, is_len, length-drop c.args.at file))
