use Rattle.std.proofs.Common.{◌≡◌, ◌++◌}
use Rattle.dataselect.proofs.names.list_names.Given as goal

abbrev pub invariant-names : goal.invariant-names
invariant-names l = l.list ++ l.name-iterator ≡ l.names.keys
