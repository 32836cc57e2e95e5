use Rattle.std.proofs.Common.{◌≤◌, ◌^◌, length, filter, arith, rules}
use Rattle.std.proofs.lemmas.Bool.Decides.{nat_tests}
use Rattle.coverage_report.specs.Lines.{report_lines}
use Rattle.coverage_report.proofs.Totals.{lines_few, fewer_seen, told_empty, told_large, told_text}
use Rattle.coverage_report.proofs.report.report_of.Goals as goal

pub returns-then-lines-eq0-clause-refused : goal.returns-then-lines-eq0-clause-refused
returns-then-lines-eq0-clause-refused g c =
    let held = g.S.Shelf.rows c.args.shelf.now in
    let rows = filter (g.V.Sight.seen c.args.sight.now) held in
    let fit : length rows ≤ 2 ^ 32 = omega (arith, fewer_seen (g.V.Sight.seen c.args.sight.now) held, g.met.S.Shelf.few c.args.shelf.now) in
    let start = c.no_lines-lines in
    told_empty start.result c.add_all.new.lines c.args.max_lines (report_lines rows c.args.first.micros c.args.days) start.ensures.text start.ensures.count start.ensures.most c.in_ok-add_all.ensures
    (lines_few rows c.args.first.micros c.args.days c.requires.few fit) (search rules)

pub returns-then-lines-max_lines-clause-refused : goal.returns-then-lines-max_lines-clause-refused
returns-then-lines-max_lines-clause-refused g c =
    let held = g.S.Shelf.rows c.args.shelf.now in
    let rows = filter (g.V.Sight.seen c.args.sight.now) held in
    let fit : length rows ≤ 2 ^ 32 = omega (arith, fewer_seen (g.V.Sight.seen c.args.sight.now) held, g.met.S.Shelf.few c.args.shelf.now) in
    let start = c.no_lines-lines in
    told_large start.result c.add_all.new.lines c.args.max_lines (report_lines rows c.args.first.micros c.args.days) start.ensures.text start.ensures.count start.ensures.most c.in_ok-add_all.ensures
    (lines_few rows c.args.first.micros c.args.days c.requires.few fit) c.if-lines-max_lines.true

pub returns-clause-text : goal.returns-clause-text
returns-clause-text g c =
    let held = g.S.Shelf.rows c.args.shelf.now in
    let rows = filter (g.V.Sight.seen c.args.sight.now) held in
    let fit : length rows ≤ 2 ^ 32 = omega (arith, fewer_seen (g.V.Sight.seen c.args.sight.now) held, g.met.S.Shelf.few c.args.shelf.now) in
    let start = c.no_lines-lines in
    let zero_not = c.if-lines-eq0.false in
    told_text start.result c.add_all.new.lines c.args.max_lines (report_lines rows c.args.first.micros c.args.days) start.ensures.text start.ensures.count start.ensures.most c.in_ok-add_all.ensures
    (lines_few rows c.args.first.micros c.args.days c.requires.few fit) (λ h. grind (arith, nat_tests, h, zero_not)) c.if-lines-max_lines.false
