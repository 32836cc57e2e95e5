use Rattle.std.proofs.Common.{◌∙◌, filter, length, sym, ap, subst}
use Rattle.epoch_rules.specs.Endings.{AreEndsOf}
use Rattle.epoch_rules.specs.EndsOver.{has_end_over}
use Rattle.epoch_rules.specs.Rules.{is_operator}
use Rattle.epoch_rules.proofs.outline.Outline.over.Goals as goal

pub returns-clause-outline : goal.returns-clause-outline
returns-clause-outline c =
    let ends = c.args.index.now.ends in
    let lines = sym c.over.ensures.lines in record {
      laid = c.over.ensures.overlay;
      counted = c.requires.index.counted ∙ ap (λ l. length (filter is_operator l)) lines;
      ended = subst (AreEndsOf (has_end_over c.none.result ends)) lines (λ test. c.none.ensures ends test ∙ c.requires.index.ended test);
    }
