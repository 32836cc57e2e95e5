use Rattle.std.proofs.Common.{◌∙◌, ap, List, get_or, rules}
use Rattle.dataselect.specs.declared.query.Selection.{Selection}
use Rattle.availability.specs.Channels.{all_spans}
use Rattle.availability.specs.Lines.{line_cmp, selection_lines}
use Rattle.availability.proofs.Ordered.{put_more}
use Rattle.availability.proofs.line.lines.Goals as goal

pub selections-preserved : goal.selections-preserved
selections-preserved c =
    rw (c.in_ok-put_lines.ensures, c.as_slice.ensures, c.in_ok-windows.ensures)
    (put_more line_cmp (selection_lines c.args.method c.args.query.now.order (all_spans c.args.channels.now)) c.selections.lines.keys c.selections.selection-index c.args.query.now.selections c.selection-item.result (search rules) (c.selection-item.is ∙ ap (λ (ss : List Selection). get_or ss c.selections.selection-index c.selection-item.result) c.as_slice-selection-items.ensures) ∙ c.selections.invariant)
