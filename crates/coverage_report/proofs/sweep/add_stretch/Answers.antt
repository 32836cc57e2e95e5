use Rattle.std.proofs.Common.{◌≤◌, ◌∙◌, ap, sym, arith}
use Rattle.coverage_report.specs.Sweep.{put_all}
use Rattle.coverage_report.proofs.Left.{left_past}
use Rattle.coverage_report.proofs.sweep.add_stretch.Goals as goal

pub returns-clause-kept : goal.returns-clause-kept
returns-clause-kept c = λ rest behind.
    let w = c.parts.next in
    let s = c.args.stretch.now in
    let past : s.end ≤ w.behind = omega (arith, c.parts-test.false, c.max.ensures, c.requires.stretch.some) in
    ap (put_all c.parts.lines) (sym (left_past w.name w.first.micros w.days w.behind w.day w.covered s rest c.requires.stretch.some past))
    ∙ c.parts.invariant.kept rest behind
