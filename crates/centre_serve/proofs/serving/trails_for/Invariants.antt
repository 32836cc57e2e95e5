use Rattle.std.proofs.Common.{◌≡◌, length}
use Rattle.centre_serve.proofs.serving.trails_for.Given as goal

abbrev pub invariant-trails : goal.invariant-trails
invariant-trails l = length l.trails.items ≡ l.counter
