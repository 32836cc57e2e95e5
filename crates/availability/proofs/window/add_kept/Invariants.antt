use Rattle.std.proofs.Common.{◌≡◌, ◌++◌, drop}
use Rattle.availability.specs.Windows.{kept_within}
use Rattle.availability.proofs.window.add_kept.Given as goal

abbrev pub invariant-spans : goal.invariant-spans
invariant-spans l = l.windows ++ kept_within l.selection (drop l.span-index l.spans) ≡ l.fn.windows ++ kept_within l.selection l.spans
