use Rattle.std.proofs.Common.{◌∙◌, not, ◌&&◌, ◌||◌, List, ap}
use Rattle.epoch_rules.specs.declared.endings.Ending.{Ending}
use Rattle.epoch_rules.specs.Endings.{has_end}
use Rattle.epoch_rules.proofs.EndsLaid.{Any, is_in, or_none}
use Rattle.epoch_rules.proofs.ends_over.EndsOver.none.Goals as goal

pub returns : goal.returns
returns c = λ ends test.
    ap (λ (l : List Ending). Any ends.keys (λ p. not (is_in l p) && test p) || has_end c.new-2.result test) c.new.ensures.empty
    ∙ ap (λ (l : List Ending). has_end ends test || Any l test) c.new-2.ensures.empty
    ∙ or_none (has_end ends test)
