use Rattle.std.proofs.Common.{◌≡◌, ◌++◌, map}
use Rattle.dataselect.specs.MergedSpans.{value_of}
use Rattle.time_index.specs.Kept.{told_value}
use Rattle.time_index.proofs.kinds.add_kind.Given as goal

abbrev pub invariant-spans : goal.invariant-spans
invariant-spans l = map value_of l.spans ++ map (told_value l.name l.kind) l.start-iterator ≡ map value_of l.fn.spans ++ map (told_value l.name l.kind) l.kept.entries
