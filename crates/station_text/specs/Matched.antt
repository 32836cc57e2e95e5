-- The selections that match a network, and those that match a station.
use Rattle.std.specs.Prelude.{◌≡◌, ℕ, Bool, ◌&&◌, ◌||◌, if◌then◌else◌, List, map, filter, Option, Some, None}
use Rattle.std.specs.Borrow.{Bor}
use Rattle.std.specs.List.{list_any}
use Rattle.channel_globs.specs.Matching.{is_match_any}
use Rattle.dataselect.specs.declared.query.Selection.{Selection}
use Rattle.query_parameters.specs.declared.level.Level.{Level}
use Rattle.query_parameters.specs.declared.level.Level.TheVariants as level
use Rattle.query_words.specs.declared.station.StationQuery.{StationQuery}
use Rattle.epochs.specs.declared.kinds.LineKind.TheVariants.{Sta, Cha}
use Rattle.epochs.specs.Lines.{LineValues}
use Rattle.epoch_rules.specs.KeyOrder.{key_parts_of}
use Rattle.epoch_rules.specs.Rules.{is_line_of}
use Rattle.station_text.specs.Asked.{matches_channel, has_channel, asks_network, is_eligible}
use Rattle.station_text.specs.Windows.{line_meets}
use Rattle.station_text.specs.declared.place.Place.{Place}
use Rattle.station_text.specs.declared.matched.Matched.{Matched}

-- a selection that is lent
abbrev pub selection_at : Bor Selection → Selection
selection_at selection = selection.now

-- those that match a network, and those that match a station's own code
abbrev pub on_network : List ℕ → List Selection → List Selection
on_network network selections = filter (λ s. is_match_any s.network network) selections

abbrev pub on_station : List ℕ → List Selection → List Selection
on_station station selections = filter (λ s. is_match_any s.station station) selections

-- the selections that are kept are those that match the network, and those of them that match the station
abbrev pub AreMatched : List Selection → Matched → Type 0
AreMatched all kept =
    (map selection_at kept.on_network ≡ on_network kept.place.network all)
    × (map selection_at kept.on_station ≡ on_station kept.place.station (on_network kept.place.network all))

-- the station of the line of a station or a channel
abbrev pub line_place : LineValues → Option Place
line_place e =
    if is_line_of Sta e || is_line_of Cha e then Some (record { network = (key_parts_of e).first; station = (key_parts_of e).second })
    else None

-- the selections are kept for the line's station
abbrev pub StandsAt : LineValues → Matched → Type 0
StandsAt e kept = (place : Place) → line_place e ≡ Some place → kept.place ≡ place

-- what is left to be asked where a selection matches the network and the station of a line: that the window is
-- met, and of a station that it has a channel that is asked for, of a channel that its codes match
abbrev pub takes_station : List LineValues → LineValues → Selection → Bool
takes_station live e s = line_meets s e && has_channel live s e

abbrev pub takes_channel : LineValues → Selection → Bool
takes_channel e s = matches_channel s e && line_meets s e

-- the line is asked for at a level, where these are the selections that match its network and station
abbrev pub is_asked_by : Level → List LineValues → StationQuery → List Selection → LineValues → Bool
is_asked_by level.Network live q found e = asks_network live q e
is_asked_by level.Station live q found e = is_line_of Sta e && (is_eligible q e && list_any (takes_station live e) found)
is_asked_by level.Channel live q found e = is_line_of Cha e && (is_eligible q e && list_any (takes_channel e) found)
