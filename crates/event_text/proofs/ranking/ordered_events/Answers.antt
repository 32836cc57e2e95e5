use Rattle.std.proofs.Common.{◌∙◌, ap}
use Rattle.epoch_catalog.specs.Families.{is_in}
use Rattle.epoch_catalog.specs.declared.families.Family.TheVariants.{Events}
use Rattle.list_laws.specs.InOrder.{in_order}
use Rattle.std.proofs.Common.{[], filter}
use Rattle.event_text.specs.Events.{is_event_asked}
use Rattle.event_text.specs.Orders.{event_cmp}
use Rattle.event_text.proofs.GivenLines.{if_ok}
use Rattle.event_text.proofs.Ranked.{narrowed, none_else}
use Rattle.event_text.proofs.ranking.ordered_events.Goals as goal

pub returns : goal.returns
returns c =
    let q = c.args.query.now in
    let asked = ap (filter (is_event_asked q)) c.family.ensures ∙ narrowed (is_in Events) (is_event_asked q) (none_else q) c.args.catalog.now in
    if_ok c.events_of.result (λ events is. is ∙ c.in_ok-ranks.ensures ∙ ap (λ es. in_order (event_cmp q.order) [] es) asked) c.events_of.ensures
