use Rattle.std.proofs.Common.{◌≡◌, map, drop}
use Rattle.list_laws.specs.InOrder.{in_order}
use Rattle.availability.specs.Lines.{line_of, line_cmp}
use Rattle.availability.proofs.line.put_lines.Given as goal

abbrev pub invariant-windows : goal.invariant-windows
invariant-windows l =
    in_order line_cmp l.lines.keys (map (line_of l.order) (drop l.window-index l.windows))
    ≡ in_order line_cmp l.fn.lines.keys (map (line_of l.order) l.windows)
