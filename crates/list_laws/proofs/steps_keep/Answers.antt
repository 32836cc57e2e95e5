use Rattle.std.proofs.Common.{◌≡◌, true}
use Rattle.list_laws.proofs.Refusals.{run_keeps}
use Rattle.list_laws.proofs.steps_keep.Goals as goal

pub returns : goal.returns
returns g c = λ step holds keeps n before s t xs p h. run_keeps step (λ xs s. holds xs s ≡ true) keeps n before s t xs p h
