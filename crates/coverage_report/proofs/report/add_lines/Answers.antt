use Rattle.std.proofs.Common.{◌≡◌, ◌∙◌, ap, sym, subst, List, filter}
use Rattle.std.specs.Prelude.{OnOk}
use Rattle.std.specs.List.{AllByRecursion}
use Rattle.coverage_report.specs.Stretches.{IsStretch}
use Rattle.coverage_report.specs.Sweep.{StartsRise, lines_swept, put_all}
use Rattle.coverage_report.specs.declared.lines.Lines.{Lines}
use Rattle.coverage_report.specs.declared.stretch.Stretch.{Stretch}
use Rattle.coverage_report.proofs.Stretched.{own_rise, own_stretches, lines_are}
use Rattle.coverage_report.proofs.report.add_lines.Goals as goal

pub add_channel-requires-clause-stretches : goal.add_channel-requires-clause-stretches
add_channel-requires-clause-stretches g c =
    subst (λ (keys : List Stretch). AllByRecursion (IsStretch c.args.first.micros c.args.days) keys) (sym c.in_ok-stretches.ensures)
    (own_stretches (filter (g.V.Sight.seen c.args.sight.now) (g.S.Shelf.rows c.args.shelf.now)) c.args.first.micros c.args.days c.args.name.now)

pub add_channel-requires-clause-rise : goal.add_channel-requires-clause-rise
add_channel-requires-clause-rise g c =
    subst StartsRise (sym c.in_ok-stretches.ensures)
    (own_rise (filter (g.V.Sight.seen c.args.sight.now) (g.S.Shelf.rows c.args.shelf.now)) c.args.first.micros c.args.days c.args.name.now)

pub returns : goal.returns
returns g c =
    subst (λ (lines : Lines). OnOk c.add_channel.result (c.add_channel.new.lines ≡ lines))
    (ap (λ (keys : List Stretch). put_all c.args.lines.now (lines_swept c.args.name.now c.args.first.micros 0 keys 0 c.args.days)) c.in_ok-stretches.ensures
    ∙ ap (put_all c.args.lines.now) (lines_are (filter (g.V.Sight.seen c.args.sight.now) (g.S.Shelf.rows c.args.shelf.now)) c.args.first.micros c.args.days c.args.name.now))
    c.add_channel.ensures
