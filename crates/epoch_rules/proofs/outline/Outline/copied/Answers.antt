use Rattle.std.proofs.Common.{◌∙◌, filter, length, List, sym, ap, subst}
use Rattle.std.specs.List.{each_same}
use Rattle.epoch_rules.specs.declared.endings.Ending.{Ending}
use Rattle.epoch_rules.specs.Endings.{AreEndsOf}
use Rattle.epoch_rules.specs.EndsOver.{has_end_over}
use Rattle.epoch_rules.specs.Rules.{is_operator}
use Rattle.epoch_rules.proofs.EndsLaid.{Any}
use Rattle.epoch_rules.proofs.outline.Outline.copied.Goals as goal

pub returns-clause-outline : goal.returns-clause-outline
returns-clause-outline c =
    let ends = c.args.index.now.ends in
    let lines = sym c.in_ok-of.ensures.lines in record {
      laid = c.in_ok-of.ensures.overlay;
      counted = c.requires.index.counted ∙ ap (λ l. length (filter is_operator l)) lines;
      ended =
          subst (AreEndsOf (has_end_over c.all.result ends)) lines (λ test.
          c.all.ensures ends test ∙ ap (λ (l : List Ending). Any l test) (each_same ends.keys c.in_ok-clone.field-0.keys c.in_ok-clone.ensures.cases) ∙ c.requires.index.ended test);
    }
