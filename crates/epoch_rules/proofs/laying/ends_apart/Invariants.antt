use Rattle.std.proofs.Common.{◌≡◌, Bool, not, ◌&&◌, ◌||◌}
use Rattle.epoch_rules.specs.Endings.{EndingParts}
use Rattle.epoch_rules.specs.EndsOver.{has_left, is_end_in}
use Rattle.epoch_rules.proofs.EndsLaid.{Any}
use Rattle.epoch_rules.proofs.laying.ends_apart.Given as goal

abbrev pub invariant-ends : goal.invariant-ends
invariant-ends l = (test : EndingParts → Bool) → (Any l.apart.items test || Any l.end-iterator (λ p. not (is_end_in l.others p) && test p)) ≡ has_left l.others l.ends test
