use Rattle.std.proofs.Common.{rules, ap₂, sym, ◌∙◌}
use Rattle.clap.specs.Words.{with_rule}
use Rattle.command_words.proofs.Folds.{fold_text, no_text}
use Rattle.command_words.proofs.layouts.with_options.Goals as goal

pub names-preserved : goal.names-preserved
names-preserved c =
    c.in_ok-built.ensures.shape (search rules) ∙ ap₂ with_rule c.names.invariant (search rules)
    ∙ sym (fold_text _ _ c.args.names.now c.names.name-index no_text c.names-test.true)
