use Rattle.std.proofs.Common.{◌≡◌, map, take}
use Rattle.std.specs.List.{flat_map}
use Rattle.dataselect.specs.MergedSpans.{value_of, merged_spans_of}
use Rattle.centre_drill.proofs.figures.all_spans.Given as goal

abbrev pub invariant-names : goal.invariant-names
invariant-names g l = map value_of l.spans.items ≡ flat_map (λ name. merged_spans_of name (g.S.Shelf.rows l.shelf)) (take l.name-index l.name-items)
