use Rattle.std.proofs.Common.{◌≡◌, Bool, ◌||◌, take}
use Rattle.epoch_rules.specs.Endings.{EndingParts, has_end}
use Rattle.epoch_rules.proofs.EndsLaid.{Any}
use Rattle.epoch_rules.proofs.laying.put_ends.Given as goal

abbrev pub invariant-ends : goal.invariant-ends
invariant-ends l = (test : EndingParts → Bool) → has_end l.ends test ≡ (has_end l.fn.ends test || Any (take l.place l.list) test)
