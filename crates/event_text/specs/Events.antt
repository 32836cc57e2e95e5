-- Events, and which of them a query asks for (FDSN Web Service Specifications 1.2, event).
use Rattle.std.specs.Prelude.{ℤ, pos, Bool, ◌&&◌, List, [], ◌∷◌, Option, Some, None, int_le, filter}
use Rattle.std.specs.Str.{bytes_eq}
use Rattle.dataselect.specs.Query.{holds}
use Rattle.epochs.specs.Kinds.{Text}
use Rattle.epochs.specs.Fields.{Value, words, time, number, optional}
use Rattle.epochs.specs.Lines.{LineValues}
use Rattle.epochs.specs.declared.kinds.LineKind.TheVariants.{Evt}
use Rattle.epoch_rules.specs.Rules.{is_line_of}
use Rattle.query_parameters.specs.Places.{is_within_limits, is_place_in, is_absent}
use Rattle.query_parameters.specs.declared.area.Limits2.{Limits2}
use Rattle.query_words.specs.declared.event.EventQuery.{EventQuery}

-- what is asked of an event: of the values of its line those that a query has limits or texts for
pub record EventValues : Type 0 where
  pub id : Text
  pub time : ℤ
  pub latitude : ℤ
  pub longitude : ℤ
  pub depth : Option ℤ
  pub catalog : Text
  pub contributor : Text
  pub magnitude_kind : Text
  pub magnitude : Option ℤ

abbrev pub no_event : EventValues
no_event = record {
  id = [];
  time = pos 0;
  latitude = pos 0;
  longitude = pos 0;
  depth = None;
  catalog = [];
  contributor = [];
  magnitude_kind = [];
  magnitude = None;
}

-- The values of the line of an event, in order: id, time, latitude, longitude, depth, author, catalog,
-- contributor, the contributor's id, type of magnitude, magnitude, its author, location. No other line has
-- values of these kinds.
abbrev pub event_in : List Value → EventValues
event_in (words id ∷ time when ∷ number latitude ∷ number longitude ∷ optional depth ∷ words author ∷ words catalog ∷ words contributor ∷ words contributor_id ∷ words kind ∷ optional magnitude ∷ more) = record {
  id = id;
  time = when;
  latitude = latitude;
  longitude = longitude;
  depth = depth;
  catalog = catalog;
  contributor = contributor;
  magnitude_kind = kind;
  magnitude = magnitude;
}
event_in _ = no_event

abbrev pub event_of : LineValues → EventValues
event_of e = event_in e.values

-- a number that may be absent is in its limits; an absent one fails each limit
abbrev pub is_within : Limits2 → Option ℤ → Bool
is_within limits None = is_absent limits.least && is_absent limits.most
is_within limits (Some n) = is_within_limits limits n

-- the time is from the start to the end
abbrev pub is_in_window : EventQuery → ℤ → Bool
is_in_window q when = holds (λ t. int_le t.micros when) q.start && holds (λ t. int_le when t.micros) q.end

-- a text is the given one, where one is given
abbrev pub is_text : Option Text → Text → Bool
is_text given text = holds (λ t. bytes_eq text t) given

abbrev pub has_texts : EventQuery → EventValues → Bool
has_texts q v =
    (is_text q.id v.id && is_text q.catalog v.catalog)
    && (is_text q.contributor v.contributor && is_text q.magnitude_kind v.magnitude_kind)

abbrev pub has_numbers : EventQuery → EventValues → Bool
has_numbers q v =
    is_place_in q.area v.latitude v.longitude && (is_within q.depth v.depth && is_within q.magnitude v.magnitude)

-- the query asks for an event
abbrev pub asks_for : EventQuery → EventValues → Bool
asks_for q v = is_in_window q v.time && (has_numbers q v && has_texts q v)

-- the query asks for a line
abbrev pub is_event_asked : EventQuery → LineValues → Bool
is_event_asked q e = is_line_of Evt e && asks_for q (event_of e)

abbrev pub asked_events : EventQuery → List LineValues → List LineValues
asked_events q live = filter (is_event_asked q) live
