use Rattle.std.proofs.Common.{length, take, ◌-◌, ◌≤◌}
use Rattle.streams.specs.Effects.{HasPut}
use Rattle.streams.proofs.transfer.put_all.Given as goal

-- the bytes so far were written
abbrev pub invariant-pieces : goal.invariant-pieces
invariant-pieces g l = record {
  within : l.done ≤ length l.bytes;
  so_far : HasPut (g.K.Stream.view l.fn.sink) (g.K.Stream.view l.sink) (take l.done l.bytes);
}

abbrev pub decreases-pieces : goal.decreases-pieces
decreases-pieces g l = length l.bytes - l.done
