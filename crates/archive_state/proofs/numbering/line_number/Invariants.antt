use Rattle.std.proofs.Common.{◌≡◌, ◌+◌, ◌-◌, ◌≤◌, length}
use Rattle.std.specs.Prelude.{slice_index}
use Rattle.std.specs.Str.Lines.{lines}
use Rattle.archive_state.specs.Lines.{said_from, line_number}
use Rattle.archive_state.proofs.numbering.line_number.Given as goal

-- what is left gives the number that all give
abbrev pub invariant-lines : goal.invariant-lines
invariant-lines l = record {
  some : 1 ≤ l.ahead;
  room : l.number + length l.left ≤ length l.body + 1;
  rest : slice_index (said_from l.number (lines l.left)) (l.ahead - 1) ≡ line_number l.body l.place;
}

abbrev pub decreases-lines : goal.decreases-lines
decreases-lines l = length l.left
