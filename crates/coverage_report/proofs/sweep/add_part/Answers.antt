use Rattle.std.proofs.Common.{◌≡◌, ◌/◌, arith, rules}
use Rattle.std.proofs.lemmas.Bool.Decides.{nat_tests}
use Rattle.coverage_report.proofs.Left.{step_same, step_later}
use Rattle.coverage_report.proofs.sweep.add_part.Goals as goal

pub returns-then-day-walk-clause-kept : goal.returns-then-day-walk-clause-kept
returns-then-day-walk-clause-kept c = λ rest behind.
    let w = c.args.walk.now in
    let s = c.args.stretch.now in
    let f = c.max-from.result in
    let e = c.min-end.result in
    let from = c.max-from.ensures in
    let to = c.min-end.ensures in
    step_same w.name w.first.micros w.days w.behind w.day w.covered (f / 86_400_000_000) e f s rest
    (search rules) (search rules) (search rules) (search rules) c.args.lines.now (search rules)

pub returns-clause-kept : goal.returns-clause-kept
returns-clause-kept c = λ rest behind.
    let w = c.args.walk.now in
    let s = c.args.stretch.now in
    let f = c.max-from.result in
    let e = c.min-end.result in
    let other : f / 86_400_000_000 ≡ w.day → ⊥ = λ h. grind (arith, nat_tests, h) in
    step_later w.name w.first.micros w.days w.behind w.day w.covered (f / 86_400_000_000) e f s rest
    (search rules) (search rules) (search rules) (search rules) c.args.lines.now c.close.new.lines behind c.requires.stretch.within w.within other c.in_ok-close.ensures
