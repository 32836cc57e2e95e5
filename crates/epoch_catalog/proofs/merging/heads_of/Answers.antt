use Rattle.std.proofs.Common.{Bor, ◌≡◌, ◌++◌, List, map, reverse, ap, subst, sym, ◌∙◌}
use Rattle.std.specs.List.Sorted.{IsPermutation, IsStrictlySortedBy}
use Rattle.epochs.specs.Lines.{LineValues}
use Rattle.epochs.specs.Views.{values_of_line}
use Rattle.epochs.specs.declared.line.Line.{Line}
use Rattle.epoch_rules.specs.KeyOrder.{line_cmp}
use Rattle.epoch_rules.specs.LiveLines.{last_lines, live_lines}
use Rattle.epoch_catalog.proofs.Heads.{heads_distinct}
use Rattle.epoch_catalog.proofs.Merged.{same_heads}
use Rattle.epoch_catalog.proofs.merging.heads_of.Goals as goal

pub sort_heads-requires : goal.sort_heads-requires
sort_heads-requires c = heads_distinct (map values_of_line c.args.lines.now) (map (λ head. values_of_line head.now) c.in_ok-heads.heads.items) c.in_ok-heads.ensures

pub returns-clause-rise : goal.returns-clause-rise
returns-clause-rise c =
    let f : Bor Line → LineValues = λ head. values_of_line head.now in
    let copied : map values_of_line c.in_ok-copies.copies.items ≡ map f c.sort_heads.new.heads.items = c.in_ok-copies.ensures ∙ ap (map f) c.deref.ensures.value in
    subst (IsStrictlySortedBy line_cmp) (sym copied) c.sort_heads.ensures.sorted

pub returns-clause-lines : goal.returns-clause-lines
returns-clause-lines c = λ live.
    let f : Bor Line → LineValues = λ head. values_of_line head.now in
    let lines : List LineValues = map values_of_line c.args.lines.now in
    let heads : List LineValues = map f c.sort_heads.new.heads.items in
    let moved : IsPermutation (reverse (last_lines lines)) heads = subst (λ hs. IsPermutation hs heads) c.in_ok-heads.ensures c.sort_heads.ensures.moved in
    let copied : map values_of_line c.in_ok-copies.copies.items ≡ heads = c.in_ok-copies.ensures ∙ ap (map f) c.deref.ensures.value in
    ap (λ ls. live_lines (live ++ ls)) copied ∙ same_heads live lines heads moved c.sort_heads.ensures.sorted
