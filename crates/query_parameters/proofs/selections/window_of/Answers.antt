use Rattle.std.proofs.Common.{sym, ◌∙◌}
use Rattle.query_parameters.specs.Selecting.{texts}
use Rattle.query_parameters.proofs.SelectionSteps.{no_window}
use Rattle.query_parameters.proofs.selections.window_of.Goals as goal

pub returns-then-is_backwards-clause-refused : goal.returns-then-is_backwards-clause-refused
returns-then-is_backwards-clause-refused c =
    no_window (texts c.args.fields.now) c.in_ok-start.start c.in_ok-end.end c.in_ok-start.ensures.limit c.in_ok-end.ensures.limit (sym c.is_backwards.ensures ∙ c.if-is_backwards.true)
