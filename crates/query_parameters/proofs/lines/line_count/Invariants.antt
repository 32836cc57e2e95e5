use Rattle.std.proofs.Common.{◌≡◌, ◌+◌, ◌≤◌, ℕ, length}
use Rattle.std.specs.Str.Lines.{lines}
use Rattle.query_parameters.specs.Bodies.{lines_from, lines_of}
use Rattle.query_parameters.proofs.lines.line_count.Given as goal

abbrev pub decreases-lines : goal.decreases-lines
decreases-lines l = length l.left

abbrev pub invariant-lines : goal.invariant-lines
invariant-lines l = record {
  counted : (number : ℕ) × (l.count + length (lines_from number (lines l.left)) ≡ length (lines_of l.body));
  room : l.count + length l.left ≤ length l.body;
}
