use Rattle.std.proofs.Common.{◌≡◌, ℕ, ◌+◌, ◌-◌, ◌≤◌, length, take, drop, slice_range, ap, ◌∙◌, sym, arith, length-take-le, length-drop}
use Rattle.std.specs.Arc.{arc_value}
use Rattle.exact_time.proofs.InnerParts.{part_of_part}
use Rattle.exact_time.proofs.part.Part.part.Goals as goal

-- src/part.rt:45:5
pub returns : goal.returns
returns c =
    let whole = (arc_value c.self.inside.body).items in
    let from = c.self.inside.from in
    let end = c.self.inside.end in
    let size : length c.args.self.now ≡ end - from =
    ap length (sym c.self.view_is)
    ∙ length-take-le (end - from) (drop from whole) (omega (arith, length-drop from whole, c.self.invariant.0, c.self.invariant.1)) in
    let within : from + c.args.end ≤ end = omega (arith, size, c.requires.1, c.self.invariant.0) in
    ap (λ v. slice_range v.items (from + c.args.from) (from + c.args.end)) c.in_ok-body.ensures
    ∙ sym (ap (λ l. slice_range l c.args.from c.args.end) (sym c.self.view_is)
    ∙ part_of_part whole from end c.args.from c.args.end c.requires.0 within)
