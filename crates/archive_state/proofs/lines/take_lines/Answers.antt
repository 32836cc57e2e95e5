use Rattle.std.proofs.Common.{◌≡◌, ◌++◌, sym, subst}
use Rattle.epoch_rules.specs.LiveLines.{live_lines}
use Rattle.archive_entry.specs.declared.entry.Kind.{Kind}
use Rattle.archive_state.specs.History.{lines_by}
use Rattle.archive_state.proofs.Growth.{none_more}
use Rattle.archive_state.proofs.lines.take_lines.Goals as goal

pub returns-in-Batch-clause-ok : goal.returns-in-Batch-clause-ok
returns-in-Batch-clause-ok c =
    subst (λ (k : Kind). c.args.catalog.now ≡ live_lines (c.args.catalog.now ++ lines_by k c.args.entry.now.body)) (sym c.in-Batch.is) (none_more c.args.catalog.now c.lines-kept.ensures.kept)
