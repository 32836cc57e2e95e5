use Rattle.std.proofs.Common.{◌≡◌, ◌++◌, drop}
use Rattle.std.specs.List.{concat}
use Rattle.availability.proofs.texts.joined.Given as goal

abbrev pub invariant-texts : goal.invariant-texts
invariant-texts l = l.text ++ concat (drop l.line-index l.texts) ≡ l.header ++ concat l.texts
