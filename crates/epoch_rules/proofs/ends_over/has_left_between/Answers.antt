use Rattle.std.proofs.Common.{rules, tests, ◌∙◌, not, refl, sym, ap}
use Rattle.std.specs.List.{list_any}
use Rattle.std.specs.Ordering.{is_lt}
use Rattle.std.proofs.lemmas.Iterator.Consumers.{YieldsList-from_rest}
use Rattle.std.proofs.lemmas.Iterator.Search.{any_from_yields_List}
use Rattle.epoch_rules.specs.declared.endings.Ending.{Ending}
use Rattle.epoch_rules.specs.Endings.{is_between, parts_of_ending}
use Rattle.epoch_rules.specs.EndsOver.{is_end_in}
use Rattle.epoch_rules.proofs.BetweenEnds.{none_between}
use Rattle.epoch_rules.proofs.EndsLaid.{any_filtered, none_both}
use Rattle.epoch_rules.proofs.ends_over.has_left_between.Goals as goal

pub returns-then-is_lt : goal.returns-then-is_lt
returns-then-is_lt c =
    let stays = λ (q : Ending). not (is_end_in c.args.gone.now (parts_of_ending q)) in
    any_from_yields_List stays _ _ c.any.result c.any.ensures.ran (YieldsList-from_rest c.range.result refl) (λ x b q k. search (rules, tests))
    ∙ ap (list_any stays) (c.range.ensures.between tt)
    ∙ any_filtered stays (λ q. is_between (parts_of_ending c.args.low.now) (parts_of_ending c.args.high.now) (parts_of_ending q)) c.args.ends.now.keys

pub returns-else-is_lt : goal.returns-else-is_lt
returns-else-is_lt c =
    let low = parts_of_ending c.args.low.now in
    let high = parts_of_ending c.args.high.now in
    c.if-is_lt.false
    ∙ sym (none_both (λ q. not (is_end_in c.args.gone.now (parts_of_ending q))) (λ q. is_between low high (parts_of_ending q)) c.args.ends.now.keys
    (sym (none_between low high c.args.ends.now.keys (sym (c.is_lt.ensures ∙ ap is_lt c.cmp.ensures) ∙ c.if-is_lt.false))))
