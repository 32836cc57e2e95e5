use Rattle.std.proofs.Common.{◌≡◌, ◌+◌, ◌≤◌, ◌++◌, map, length}
use Rattle.std.specs.Vec.{vec_capacity}
use Rattle.std.specs.Vec.Iter.{into_iter_items}
use Rattle.centre_serve.proofs.seats.ports_of.Given as goal

abbrev pub invariant-ports : goal.invariant-ports
invariant-ports g l =
    (l.ports.items ++ map (λ worker. worker.port) (into_iter_items l.rest) ≡ map (λ worker. worker.port) l.fn.workers.items)
    × (length l.ports.items + length (into_iter_items l.rest) ≤ vec_capacity l.ports)

abbrev pub decreases-ports : goal.decreases-ports
decreases-ports g l = length (into_iter_items l.rest)
