use Rattle.std.proofs.Common.{◌∙◌, sym, ap}
use Rattle.std.specs.Map.Iter.{deref}
use Rattle.std.specs.Ordering.{is_lt}
use Rattle.epoch_rules.specs.Endings.{parts_of_ending, is_between}
use Rattle.epoch_rules.proofs.BetweenEnds.{first_taken, none_between}
use Rattle.epoch_rules.proofs.endings.has_between.Goals as goal

pub returns-then-is_lt : goal.returns-then-is_lt
returns-then-is_lt c =
    c.is_some.ensures
    ∙ first_taken deref (λ q. is_between (parts_of_ending c.args.low.now) (parts_of_ending c.args.high.now) (parts_of_ending q)) c.args.ends.now.keys c.range.result c.next.new.self c.next.result (c.range.ensures.between tt) c.next.ensures.steps

pub returns-else-is_lt : goal.returns-else-is_lt
returns-else-is_lt c =
    c.if-is_lt.false
    ∙ none_between (parts_of_ending c.args.low.now) (parts_of_ending c.args.high.now) c.args.ends.now.keys (sym (c.is_lt.ensures ∙ ap is_lt c.cmp.ensures) ∙ c.if-is_lt.false)
