use Rattle.std.proofs.Common.{◌≡◌, ◌++◌, ◌∷◌, [], List, map, ap, sym, subst, ◌∙◌, arith}
use Rattle.std.specs.Ordering.{is_gt}
use Rattle.epochs.specs.Lines.{LineValues}
use Rattle.epochs.specs.Views.{values_of_line}
use Rattle.epoch_rules.specs.KeyOrder.{line_cmp}
use Rattle.epoch_catalog.specs.Merging.{last_place, AreMoved}
use Rattle.epoch_catalog.proofs.Merged.{is_greater, one_more_moved, one_taken, place_of_last}
use Rattle.epoch_catalog.proofs.merging.move_behind.Goals as goal

pub moved-preserved : goal.moved-preserved
moved-preserved c =
    let head : LineValues = values_of_line c.args.head.now in
    let first : List LineValues = map values_of_line c.args.live.now.items in
    let behind : List LineValues = map values_of_line c.args.behind.now.items in
    let old : List LineValues = map values_of_line c.moved.live.items in
    let new : List LineValues = map values_of_line c.take_last.new.self.items in
    let line : LineValues = values_of_line c.take_last.result in
    let after : List LineValues = map values_of_line c.moved.behind.items in
    let is : old ≡ new ++ line ∷ [] = one_taken values_of_line c.moved.live.items c.take_last.new.self.items c.take_last.result c.take_last.ensures.items in
    let put : map values_of_line c.push_reserved.new.self.items ≡ after ++ line ∷ [] = one_taken values_of_line c.push_reserved.new.self.items c.moved.behind.items c.take_last.result c.push_reserved.ensures.items in
    let here : c.place_last.result ≡ line_cmp line head =
    c.place_last.ensures ∙ ap (λ ls. last_place (map values_of_line ls) head) c.deref.ensures.value ∙ ap (λ ls. last_place ls head) is ∙ place_of_last new line head in
    let greater = is_greater (line_cmp line head) (ap is_gt (sym here) ∙ sym c.is_gt.ensures ∙ c.moved-test.true) in
    record {
      moved =
          subst (λ ls. AreMoved head first new behind ls) (sym put)
          (one_more_moved head first new behind after line (subst (λ ls. AreMoved head first ls behind after) is c.moved.invariant.moved) greater);
      len = omega arith;
      live_capacity = (cc);
      behind_capacity = (cc);
    }
