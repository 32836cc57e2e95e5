-- The text answers of event (FDSN Web Service Specifications 1.2, event, format=text).
use Rattle.std.specs.Prelude.{ℕ, List, [], ◌∷◌, ◌++◌, map, codes, Result}
use Rattle.std.specs.List.{flat_map}
use Rattle.exact_time.specs.declared.error.TextRefusal.{TextRefusal}
use Rattle.epochs.specs.Kinds.{Text}
use Rattle.epochs.specs.Lines.{LineValues}
use Rattle.line_columns.specs.Texts.{line_feed, column_text, barred}
use Rattle.line_columns.specs.Answers.{text_or_empty}
use Rattle.query_words.specs.declared.event.EventQuery.{EventQuery}
use Rattle.event_text.specs.Orders.{ordered_events, given_events}

-- the columns of an event are the values of its line in order
abbrev pub event_text : LineValues → Text
event_text e = barred (map column_text e.values) ++ line_feed ∷ []

abbrev pub header_text : Text
header_text =
    codes "#EventID|Time|Latitude|Longitude|Depth/km|Author|Catalog|Contributor|ContributorID|MagType|Magnitude|MagAuthor|EventLocationName\n"

-- the header line, and then a line for each of these
abbrev pub answer_text : List LineValues → Text
answer_text events = header_text ++ flat_map event_text events

-- the text of the events that are given, or why there is none: there is no event, or too many are
abbrev pub text_answer_of : EventQuery → ℕ → List LineValues → Result Text TextRefusal
text_answer_of q most live = text_or_empty answer_text most (given_events q (ordered_events q live))
