use Rattle.std.proofs.Common.{◌≡◌, ◌-◌, ◌<◌, ℕ, length, arith, sym, ap, ◌∙◌, subst}
use Rattle.http_wire.specs.Taking.{FrontRead, front_size}
use Rattle.http_wire.proofs.FrontSteps.{front_read, not_empty}
use Rattle.http_wire.proofs.Waiting.{front_waits}
use Rattle.http_wire.proofs.front.read_front.Goals as goal

pub returns-clause-front : goal.returns-clause-front
returns-clause-front g c =
    let mid = c.skip_blanks.new.held in
    let some : 0 < length mid = not_empty (length mid) c.if-is_empty.ensures in
    let held = c.read_block.new.held in
    let n = c.in_ok-skipped.skipped in
    let kind = c.in_ok-kind.kind in
    let same : front_size kind (length held) (c.args.limit - n) ≡ c.front_size-size.result = ap (λ k. front_size kind k (c.args.limit - n)) (sym c.len.ensures) ∙ sym c.front_size-size.ensures in
    let P : ℕ → Type 0 = λ k. FrontRead c.args.limit (g.L.Stream.view c.args.link.now).left (g.L.Stream.view c.read_block.new.link).left c.args.held.now held (record { kind = kind; size = k }) in
    subst P same (front_read c.args.limit _ _ _ _ mid held n kind (omega (arith, c.if-limit-skipped.false)) some
    c.in_ok-skipped.ensures.skipped c.in_ok-kind.ensures.took c.in_ok-kind.ensures.stops)

pub returns-in_err-kind-clause-waits : goal.returns-in_err-kind-clause-waits
returns-in_err-kind-clause-waits g c = front_waits c.args.limit _ _ _ _ c.skip_blanks.new.held c.in_ok-skipped.skipped c.in_ok-skipped.ensures.skipped (omega (arith, c.if-limit-skipped.false)) c.skip_blanks.ensures.waits c.read_block.ensures.waits

pub returns-clause-waits : goal.returns-clause-waits
returns-clause-waits g c = front_waits c.args.limit _ _ _ _ c.skip_blanks.new.held c.in_ok-skipped.skipped c.in_ok-skipped.ensures.skipped (omega (arith, c.if-limit-skipped.false)) c.skip_blanks.ensures.waits c.read_block.ensures.waits
