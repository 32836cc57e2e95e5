use Rattle.std.proofs.Common.{◌≡◌, ◌+◌, map, drop}
use Rattle.query_parameters.specs.Bodies.{numbered_line, front_count}
use Rattle.query_parameters.proofs.lines.front_len.Given as goal

abbrev pub invariant-front : goal.invariant-front
invariant-front l = record {
  at : l.count ≡ l.line-index;
  rest : l.count + front_count (map numbered_line (drop l.line-index l.lines)) ≡ front_count (map numbered_line l.lines);
}
