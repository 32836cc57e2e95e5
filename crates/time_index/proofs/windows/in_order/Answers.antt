use Rattle.std.proofs.Common.{rules, ◌≡◌, ◌∙◌, sym, ap, subst, map, [], Ordering}
use Rattle.std.specs.BTreeSet.{IsFromIterResult}
use Rattle.std.proofs.lemmas.Iterator.{items_from_drains}
use Rattle.std.proofs.lemmas.Iterator.Adapters.{YieldsList-from_vec}
use Rattle.std.proofs.lemmas.List.{map-id}
use Rattle.list_laws.specs.InOrder.{in_order}
use Rattle.dataselect.specs.declared.order.Rank.{Rank}
use Rattle.dataselect.specs.Order.{rank_cmp}
use Rattle.dataselect.proofs.Orders.{rank_same}
use Rattle.time_index.proofs.Found.{collected}
use Rattle.time_index.proofs.windows.in_order.Goals as goal

pub returns : goal.returns
returns c =
    let ran = c.in_ok-set.ensures.ran in
    let are : map (λ (r : Rank). r) ran.0 ≡ c.into_vec.result.items = items_from_drains ran.0 ran.1 (YieldsList-from_vec c.into_vec.result.items (search rules) (search rules)) in
    let made : IsFromIterResult rank_cmp ran.0 c.in_ok-set.set = subst (λ (cmp : Rank → Rank → Ordering). IsFromIterResult cmp ran.0 c.in_ok-set.set) rank_same ran.2 in
    collected ran.0 c.in_ok-set.set made ∙ ap (in_order rank_cmp []) (sym (map-id ran.0) ∙ are ∙ c.into_vec.ensures)
