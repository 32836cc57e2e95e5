use Rattle.std.proofs.Common.{map, take}
use Rattle.query_parameters.specs.Bodies.{numbered_line, AreSelections}
use Rattle.query_parameters.proofs.selections.read_selections.Given as goal

-- each line so far has its selection
abbrev pub invariant-lines : goal.invariant-lines
invariant-lines l = AreSelections (map numbered_line (take l.line-index l.lines)) l.selections
