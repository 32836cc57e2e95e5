use Rattle.std.proofs.Common.{◌≡◌, drop}
use Rattle.list_laws.specs.InOrder.{in_order}
use Rattle.availability.specs.Channels.{all_spans}
use Rattle.availability.specs.Lines.{line_cmp, lines_from, lines_of}
use Rattle.availability.proofs.line.lines.Given as goal

abbrev pub invariant-selections : goal.invariant-selections
invariant-selections l =
    in_order line_cmp l.lines.keys (lines_from l.method l.query.order (all_spans l.channels) (drop l.selection-index l.query.selections))
    ≡ lines_of l.method l.query (all_spans l.channels)
