use Rattle.std.proofs.Common.{◌≡◌, length}
use Rattle.velkatsa.proofs.workers_for.Given as goal

-- there are as many workers as were numbered
abbrev pub invariant-workers : goal.invariant-workers
invariant-workers g l = length l.workers.items ≡ l.number
