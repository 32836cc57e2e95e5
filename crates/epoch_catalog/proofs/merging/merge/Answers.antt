use Rattle.std.proofs.Common.{◌++◌, List, length, map, reverse, ap, ◌∙◌, arith}
use Rattle.std.proofs.lemmas.List.{map-append, length-append, length-reverse}
use Rattle.epochs.specs.Views.{values_of_line}
use Rattle.epochs.specs.declared.line.Line.{Line}
use Rattle.epoch_catalog.proofs.Merged.{map_reversed}
use Rattle.epoch_catalog.proofs.merging.merge.Goals as goal

pub returns-else-len-le-FEW-clause-lines : goal.returns-else-len-le-FEW-clause-lines
returns-else-len-le-FEW-clause-lines c =
    let kept : List Line = c.merge_heads.new.live.items in
    let behind : List Line = c.merge_heads.new.behind.items in
    ap (map values_of_line) c.put_behind.ensures
    ∙ map-append values_of_line kept (reverse behind)
    ∙ ap (λ ls. map values_of_line kept ++ ls) (map_reversed values_of_line behind)
    ∙ c.merge_heads.ensures.lines

pub returns-else-len-le-FEW-clause-few : goal.returns-else-len-le-FEW-clause-few
returns-else-len-le-FEW-clause-few c =
    let kept : List Line = c.merge_heads.new.live.items in
    let behind : List Line = c.merge_heads.new.behind.items in
    let put = ap length c.put_behind.ensures ∙ length-append kept (reverse behind) in
    let turned = length-reverse behind in
    let merged = c.merge_heads.ensures.len in
    let all = c.merge_heads.new.live.ok in
    let more = c.merge_heads.new.behind.ok in
    let before = c.args.live.now.ok in
    let given = c.args.heads.now.ok in
    omega (arith, put, turned, merged, all, more, before, given)
