use Rattle.std.proofs.Common.{◌≡◌, ◌∙◌, [], List, ℕ, map, ap, sym, subst}
use Rattle.std.specs.List.Sorted.{IsStrictlySortedBy}
use Rattle.std.proofs.lemmas.Result.{IfOk-weaker}
use Rattle.list_laws.specs.InOrder.{in_order}
use Rattle.dataselect.specs.declared.order.Rank.{Rank}
use Rattle.dataselect.specs.Order.{rank_cmp}
use Rattle.time_index.proofs.Rising.{in_order_already}
use Rattle.time_index.proofs.windows.places_in_order.Goals as goal

abbrev indices : List Rank → List ℕ
indices ranks = map {A = Rank} {B = ℕ} (λ rank. rank.index) ranks

pub returns-then-are_rising : goal.returns-then-are_rising
returns-then-are_rising c =
    let up : IsStrictlySortedBy rank_cmp c.args.ranks = subst (IsStrictlySortedBy rank_cmp) c.as_slice.ensures (c.are_rising.ensures c.if-are_rising.true) in
    IfOk-weaker c.list_places.result (λ places. places ≡ indices c.as_slice-then-are_rising.result.now) (λ places. places ≡ indices (in_order rank_cmp [] c.args.ranks))
    (λ places is. is ∙ ap indices (c.as_slice-then-are_rising.ensures ∙ sym (in_order_already c.args.ranks up))) c.list_places.ensures
