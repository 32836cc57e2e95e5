use Rattle.std.proofs.Common.{◌≡◌, ◌+◌, ◌≤◌, ◌++◌, map, length}
use Rattle.std.specs.Str.Lines.{lines}
use Rattle.query_parameters.specs.Bodies.{numbered_line, lines_from, lines_of}
use Rattle.query_parameters.proofs.lines.body_lines.Given as goal

abbrev pub decreases-lines : goal.decreases-lines
decreases-lines l = length l.left

-- the lines so far and those that are left are the body's
abbrev pub invariant-lines : goal.invariant-lines
invariant-lines l = record {
  read : map numbered_line l.lines.items ++ lines_from (l.number + 1) (lines l.left) ≡ lines_of l.body;
  room : l.number + length l.left ≤ length l.body;
}
