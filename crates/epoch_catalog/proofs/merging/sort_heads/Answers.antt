use Rattle.std.proofs.Common.{rules, of_calls, Bor, map}
use Rattle.std.specs.List.Sorted.{IsPermutation}
use Rattle.std.specs.Ordering.{eq_by_cmp, is_lt}
use Rattle.std.proofs.lemmas.Fn.{always_returns_same}
use Rattle.std.proofs.lemmas.List.Sorted.{IsPermutation-map, ranks_by}
use Rattle.std.proofs.lemmas.Map.Keys.{IsDistinct-IsPermutation}
use Rattle.epochs.specs.Lines.{LineValues}
use Rattle.epochs.specs.Views.{values_of_line}
use Rattle.epochs.specs.declared.line.Line.{Line}
use Rattle.epoch_rules.specs.KeyOrder.{line_cmp}
use Rattle.epoch_rules.proofs.KeptCatalog.{eq_turned}
use Rattle.epoch_catalog.proofs.Heads.{strictly}
use Rattle.epoch_rules.proofs.Orders.{lines_total}
use Rattle.epoch_catalog.proofs.merging.sort_heads.Goals as goal

pub returns-clause-sorted : goal.returns-clause-sorted
returns-clause-sorted c =
    let f : Bor Line → LineValues = λ head. values_of_line head.now in
    let new = c.sort_unstable_by.new.self.items in
    let moved : IsPermutation (map f c.args.heads.now.items) (map f new) = IsPermutation-map f _ _ c.sort_unstable_by.ensures.permutation in
    let apart = IsDistinct-IsPermutation (eq_by_cmp line_cmp) (eq_turned lines_total) (map f c.args.heads.now.items) (map f new) moved c.requires in
    strictly f new (c.sort_unstable_by.ensures.sorted (λ a b. is_lt (line_cmp (f a) (f b))) (ranks_by lines_total f) (always_returns_same _ _ _ (λ a r g k. search (rules, of_calls)))) apart

pub returns-clause-moved : goal.returns-clause-moved
returns-clause-moved c =
    let f : Bor Line → LineValues = λ head. values_of_line head.now in
    IsPermutation-map f _ _ c.sort_unstable_by.ensures.permutation
