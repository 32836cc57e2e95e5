use Rattle.std.proofs.Common.{map, take}
use Rattle.query_parameters.specs.Bodies.{numbered_line}
use Rattle.query_parameters.specs.Fronts.{HasFront}
use Rattle.query_parameters.specs.Rows.{names_of}
use Rattle.query_parameters.proofs.front.read_front.Given as goal

-- the lines so far are right
abbrev pub invariant-lines : goal.invariant-lines
invariant-lines l = HasFront (names_of l.table) (map numbered_line (take l.line-index l.lines)) l.words.items
