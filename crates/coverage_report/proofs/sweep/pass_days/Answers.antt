use Rattle.std.proofs.Common.{◌≡◌, ℕ, ◌+◌, ◌-◌, ◌*◌, ◌/◌, ◌<◌, ◌≤◌, ◌^◌, ◌∷◌, min, ◌∙◌, ap, sym, arith, rules}
use Rattle.coverage_report.specs.Sweep.{put_all}
use Rattle.coverage_report.proofs.Left.{left, days_passed}
use Rattle.coverage_report.proofs.sweep.pass_days.Goals as goal

pub returns-clause-kept : goal.returns-clause-kept
returns-clause-kept c = λ rest behind.
    let w = c.args.walk.now in
    let s = c.args.stretch.now in
    let old = c.args.lines.now in
    let end = s.end / 86_400_000_000 in
    let n = end - (w.day + 1) in
    let at : w.behind ≡ w.day * 86_400_000_000 + 86_400_000_000 = search rules in
    let far : (w.day + n) * 86_400_000_000 + 86_400_000_000 ≡ end * 86_400_000_000 = omega arith in
    let total : c.saturating_add-lines.result ≡ min (old.count + n) (2 ^ 64 - 1) = search rules in
    let fit : old.count < 2 ^ 64 = omega arith in
    let top : old.most < 2 ^ 64 = omega arith in
    let some : 0 < n = omega arith in
    let hi : (w.day + n) * 86_400_000_000 + 86_400_000_000 ≤ s.end = omega arith in
    ap (λ (b : ℕ). put_all (record old { count = c.saturating_add-lines.result }) (left w.name w.first.micros w.days b (w.day + n) 86_400_000_000 (s ∷ rest))) (sym far)
    ∙ days_passed w.name w.first.micros w.days w.behind w.day w.covered n s rest behind c.requires.begun.0 at some c.requires.open hi c.requires.stretch.within
    old (record old { count = c.saturating_add-lines.result }) fit top c.if-lines.false (λ i. record old { count = total i })
