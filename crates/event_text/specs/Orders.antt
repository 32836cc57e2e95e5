-- The order of events, and which of them an answer has (FDSN Web Service Specifications 1.2, event, orderby,
-- offset and limit).
use Rattle.std.specs.Prelude.{ℕ, ◌-◌, List, [], Option, Some, None, take, drop}
use Rattle.std.specs.Ordering.{int_cmp, ordering_then}
use Rattle.std.specs.declared.cmp.Ordering.{Ordering}
use Rattle.std.specs.Option.{option_cmp}
use Rattle.list_laws.specs.InOrder.{in_order}
use Rattle.epochs.specs.Lines.{LineValues}
use Rattle.epoch_rules.specs.KeyOrder.{line_cmp}
use Rattle.query_parameters.specs.declared.order.EventOrder.{EventOrder}
use Rattle.query_parameters.specs.declared.order.EventOrder.TheVariants.{TimeDown, TimeUp, MagnitudeDown, MagnitudeUp}
use Rattle.query_words.specs.declared.event.EventQuery.{EventQuery}
use Rattle.event_text.specs.Events.{EventValues, event_of, asked_events}

-- newest first, oldest first, greatest magnitude first with absent ones last, least first with absent ones first
abbrev pub front_cmp : EventOrder → EventValues → EventValues → Ordering
front_cmp TimeDown a b = int_cmp b.time a.time
front_cmp TimeUp a b = int_cmp a.time b.time
front_cmp MagnitudeDown a b = option_cmp int_cmp b.magnitude a.magnitude
front_cmp MagnitudeUp a b = option_cmp int_cmp a.magnitude b.magnitude

-- ties go by key, which of an event is its id, ascending
abbrev pub event_cmp : EventOrder → LineValues → LineValues → Ordering
event_cmp order a b = ordering_then (front_cmp order (event_of a) (event_of b)) (line_cmp a b)

-- the events that are asked for, in the order that is
abbrev pub ordered_events : EventQuery → List LineValues → List LineValues
ordered_events q live = in_order (event_cmp q.order) [] (asked_events q live)

abbrev pub limited : {X : Type 0} → Option ℕ → List X → List X
limited None xs = xs
limited (Some n) xs = take n xs

-- those from the offset on, which counts from 1, and of them at most so many as the limit says
abbrev pub given_events : {X : Type 0} → EventQuery → List X → List X
given_events q events = limited q.limit (drop (q.offset - 1) events)
