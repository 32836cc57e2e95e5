use Rattle.std.proofs.Common.{◌≡◌, Bool, not, ◌&&◌, take}
use Rattle.epoch_rules.specs.Endings.{EndingParts, has_end}
use Rattle.epoch_rules.proofs.EndsLaid.{is_in}
use Rattle.epoch_rules.proofs.laying.drop_ends.Given as goal

abbrev pub invariant-ends : goal.invariant-ends
invariant-ends l = (test : EndingParts → Bool) → has_end l.ends test ≡ has_end l.fn.ends (λ p. not (is_in (take l.end-index l.list) p) && test p)
