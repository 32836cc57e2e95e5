use Rattle.std.proofs.Common.{◌∙◌}
use Rattle.availability.specs.Lines.{line_of, line_cmp}
use Rattle.availability.proofs.Orders.{line_same}
use Rattle.availability.proofs.Ordered.{put_one}
use Rattle.availability.proofs.line.put_lines.Goals as goal

pub windows-preserved : goal.windows-preserved
windows-preserved c =
    rw (c.in_ok-insert.ensures.keys, line_same, c.line_of.ensures)
    (put_one line_cmp (line_of c.args.order) c.windows.lines.keys c.windows.window-index c.args.windows.now c.window-item.result c.windows-test.true c.window-item.is ∙ c.windows.invariant)
