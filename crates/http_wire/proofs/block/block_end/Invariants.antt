use Rattle.std.proofs.Common.{length, ◌-◌, ◌≤◌}
use Rattle.http_wire.specs.Blocks.{NoBlock}
use Rattle.http_wire.proofs.block.block_end.Given as goal

-- no block ends at a place behind
abbrev pub invariant-places : goal.invariant-places
invariant-places l = record {
  within : l.place ≤ length l.text;
  clear : NoBlock l.text l.place;
}

abbrev pub decreases-places : goal.decreases-places
decreases-places l = length l.text - l.place
