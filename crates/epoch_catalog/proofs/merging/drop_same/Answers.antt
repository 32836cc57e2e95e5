use Rattle.std.proofs.Common.{◌≡◌, ◌++◌, ◌∷◌, [], List, map, ap, sym, subst, ◌∙◌}
use Rattle.std.specs.List.Sorted.{IsStrictlySortedBy}
use Rattle.std.specs.Ordering.{is_eq}
use Rattle.epochs.specs.Lines.{LineValues}
use Rattle.epochs.specs.Views.{values_of_line}
use Rattle.epoch_rules.specs.KeyOrder.{line_cmp}
use Rattle.epoch_rules.proofs.Lookups.{is_equal}
use Rattle.epoch_catalog.specs.Merging.{last_place, AreBefore}
use Rattle.epoch_catalog.proofs.Merged.{less_left, none_dropped, one_taken, place_of_last, same_dropped}
use Rattle.epoch_catalog.proofs.merging.drop_same.Goals as goal

pub returns-then-is_eq-clause-before : goal.returns-then-is_eq-clause-before
returns-then-is_eq-clause-before c =
    let head : LineValues = values_of_line c.args.head.now in
    let old : List LineValues = map values_of_line c.args.live.now.items in
    let new : List LineValues = map values_of_line c.take_last.new.self.items in
    let line : LineValues = values_of_line c.take_last.result in
    let is : old ≡ new ++ line ∷ [] = one_taken values_of_line c.args.live.now.items c.take_last.new.self.items c.take_last.result c.take_last.ensures.items in
    let place : c.place_last.result ≡ last_place old head = c.place_last.ensures ∙ ap (λ ls. last_place (map values_of_line ls) head) c.deref.ensures.value in
    let here : c.place_last.result ≡ line_cmp line head = place ∙ ap (λ ls. last_place ls head) is ∙ place_of_last new line head in
    subst (λ ls. AreBefore head ls new) (sym is)
    (same_dropped new line head (subst (IsStrictlySortedBy line_cmp) is c.requires.rises) (is_equal (line_cmp line head) (ap is_eq (sym here) ∙ sym c.is_eq.ensures ∙ c.if-is_eq.true)))

pub returns-else-is_eq-clause-before : goal.returns-else-is_eq-clause-before
returns-else-is_eq-clause-before c =
    let head : LineValues = values_of_line c.args.head.now in
    let old : List LineValues = map values_of_line c.args.live.now.items in
    let place : c.place_last.result ≡ last_place old head = c.place_last.ensures ∙ ap (λ ls. last_place (map values_of_line ls) head) c.deref.ensures.value in
    none_dropped old head c.requires.rises (less_left (last_place old head) c.requires.rest (ap is_eq (sym place) ∙ sym c.is_eq.ensures ∙ c.if-is_eq.false))
