use Rattle.std.proofs.Common.{◌≡◌, ◌++◌, map}
use Rattle.dataselect.specs.MergedSpans.{value_of}
use Rattle.time_index.specs.Kept.{told_values}
use Rattle.time_index.proofs.kinds.list_spans.Given as goal

abbrev pub invariant-kinds : goal.invariant-kinds
invariant-kinds l = map value_of l.spans ++ told_values l.name l.kind-iterator ≡ told_values l.name l.kinds.entries
