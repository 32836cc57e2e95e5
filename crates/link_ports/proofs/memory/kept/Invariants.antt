use Rattle.std.proofs.Common.{◌≡◌, take}
use Rattle.link_ports.proofs.memory.kept.Given as goal

abbrev pub invariant-turns : goal.invariant-turns
invariant-turns l = l.kept ≡ take l.turn-index l.turns
