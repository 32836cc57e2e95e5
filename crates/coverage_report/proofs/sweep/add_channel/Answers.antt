use Rattle.std.proofs.Common.{◌≡◌, ◌∙◌, ap, sym, subst}
use Rattle.std.specs.Prelude.{OnOk}
use Rattle.coverage_report.specs.Sweep.{put_all}
use Rattle.coverage_report.specs.declared.lines.Lines.{Lines}
use Rattle.coverage_report.proofs.Left.{left_at_first, left_at_last}
use Rattle.coverage_report.proofs.sweep.add_channel.Goals as goal

pub returns : goal.returns
returns c =
    let w = c.in_ok-walk.walk in
    let keys = c.args.stretches.now.keys in
    subst (λ (lines : Lines). OnOk c.close.result (c.close.new.lines ≡ lines))
    (ap (put_all c.swept.new.lines) (sym (left_at_last w.name w.first.micros w.days w.behind w.day w.covered))
    ∙ c.in_ok-walk.ensures.kept
    ∙ ap (put_all c.args.lines.now) (left_at_first c.args.name.now c.args.first.micros c.args.days keys c.requires.days.some))
    c.close.ensures
