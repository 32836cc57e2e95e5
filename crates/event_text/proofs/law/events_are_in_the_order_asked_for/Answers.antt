use Rattle.event_text.proofs.Members.{in_the_order, asked_alone}
use Rattle.event_text.proofs.law.events_are_in_the_order_asked_for.Goals as goal

pub returns : goal.returns
returns c live q catalog = (in_the_order q live, asked_alone q live catalog.rises)
