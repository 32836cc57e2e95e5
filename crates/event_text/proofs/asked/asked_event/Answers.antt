use Rattle.std.proofs.Common.{sym, ap, ◌∙◌}
use Rattle.epochs.specs.Views.{values_of_line}
use Rattle.event_text.specs.Events.{is_event_asked}
use Rattle.event_text.proofs.asked.asked_event.Goals as goal

pub returns-then-asks_for : goal.returns-then-asks_for
returns-then-asks_for c = (ap (λ l. is_event_asked c.args.query.now (values_of_line l)) c.in-Evt.is ∙ sym c.asks_for.ensures ∙ c.if-asks_for.true, ap values_of_line c.in-Evt.is)

pub returns-else-asks_for : goal.returns-else-asks_for
returns-else-asks_for c = ap (λ l. is_event_asked c.args.query.now (values_of_line l)) c.in-Evt.is ∙ sym c.asks_for.ensures ∙ c.if-asks_for.false
