use Rattle.std.proofs.Common.{map, arith}
use Rattle.epochs.specs.Views.{values_of_line}
use Rattle.epoch_rules.specs.Kept.{first_broken}
use Rattle.archive_state.proofs.Checks.{none_broken, some_broken}
use Rattle.archive_state.proofs.judging.first_broken.Goals as goal

pub returns-in-Ok-clause-value : goal.returns-in-Ok-clause-value
returns-in-Ok-clause-value c = none_broken (first_broken c.args.catalog.now (map values_of_line c.args.lines.now)) c.in-Ok.ensures.exact

pub returns-in-Err-Broken-clause-value : goal.returns-in-Err-Broken-clause-value
returns-in-Err-Broken-clause-value c =
    let exact = rw c.in-Err-Broken.field-0-is at c.in-Err-Broken.ensures.exact in
    some_broken (first_broken c.args.catalog.now (map values_of_line c.args.lines.now)) c.in-Err-Broken.line c.in-Err-Broken.rule exact

pub returns-in-Err-Broken-clause-placed : goal.returns-in-Err-Broken-clause-placed
returns-in-Err-Broken-clause-placed c =
    let refused = rw c.in-Err-Broken.field-0-is at c.in-Err-Broken.ensures.refused in
    omega (arith, refused.number_is)
