-- Which live lines a query for stations asks for (FDSN Web Service Specifications 1.2, station).
use Rattle.std.specs.Prelude.{ℕ, Bool, false, ◌&&◌, ◌||◌, List, [], ◌∷◌, Option, Some, None, filter, length, if◌then◌else◌}
use Rattle.std.specs.List.{list_any, filter_map}
use Rattle.std.specs.Str.{bytes_eq}
use Rattle.list_laws.specs.InOrder.{in_order}
use Rattle.channel_globs.specs.Matching.{star, is_match_any}
use Rattle.dataselect.specs.declared.query.Selection.{Selection}
use Rattle.query_parameters.specs.declared.area.Area.{Area}
use Rattle.query_parameters.specs.declared.level.Level.{Level}
use Rattle.query_parameters.specs.declared.level.Level.TheVariants as level
use Rattle.query_words.specs.declared.station.StationQuery.{StationQuery}
use Rattle.epochs.specs.declared.kinds.LineKind.TheVariants.{Net, Sta, Cha}
use Rattle.epochs.specs.Lines.{LineValues}
use Rattle.epoch_catalog.specs.declared.families.Family.{Family}
use Rattle.epoch_catalog.specs.declared.families.Family.TheVariants.{StationsOf, ChannelsOf}
use Rattle.epoch_catalog.specs.Families.{is_in}
use Rattle.epoch_rules.specs.KeyOrder.{key_parts_of, text_cmp}
use Rattle.epoch_rules.specs.Rules.{is_line_of, contains}
use Rattle.query_parameters.specs.Places.{is_everywhere}
use Rattle.station_text.specs.Windows.{line_meets, line_passes, is_in_area}

-- the live lines of a family
abbrev pub family_lines : Family → List LineValues → List LineValues
family_lines family live = filter (is_in family) live

-- the lines of a network's stations, and of a station's channels
abbrev pub stations_of : LineValues → List LineValues → List LineValues
stations_of e live = family_lines (StationsOf (key_parts_of e).first) live

abbrev pub channels_of : LineValues → List LineValues → List LineValues
channels_of e live = family_lines (ChannelsOf (key_parts_of e).first (key_parts_of e).second) live

-- a list of patterns is the one pattern `*`
abbrev pub is_every : List (List ℕ) → Bool
is_every (pattern ∷ []) = bytes_eq pattern (star ∷ [])
is_every _ = false

-- a selection asks for every channel of a station
abbrev pub takes_all_channels : Selection → Bool
takes_all_channels s = is_every s.location && is_every s.channel

-- a selection matches the location and the channel of a line
abbrev pub matches_channel : Selection → LineValues → Bool
matches_channel s c = is_match_any s.location (key_parts_of c).third && is_match_any s.channel (key_parts_of c).fourth

-- a line is the epoch of a channel within another epoch, and the selection matches its location and channel
abbrev pub is_inner_channel : Selection → LineValues → LineValues → Bool
is_inner_channel s e c = is_line_of Cha c && contains e c && matches_channel s c

-- a station has a channel that the selection asks for
abbrev pub has_channel : List LineValues → Selection → LineValues → Bool
has_channel live s e = takes_all_channels s || list_any (is_inner_channel s e) (channels_of e live)

-- a station that a network is asked for by: the selection matches its code, it lies in the area, and it has a
-- channel that is asked for; of its time nothing is asked
abbrev pub is_wanted : Area → Selection → LineValues → Bool
is_wanted area s t = is_match_any s.station (key_parts_of t).second && is_in_area area t

abbrev pub asks_inside : List LineValues → Area → Selection → LineValues → Bool
asks_inside live area s t = is_wanted area s t && has_channel live s t

-- a line is the epoch of such a station within another epoch
abbrev pub is_inner_station : List LineValues → Area → Selection → LineValues → LineValues → Bool
is_inner_station live area s e t = is_line_of Sta t && contains e t && asks_inside live area s t

-- a selection and an area ask for every station of a network
abbrev pub takes_all_stations : Area → Selection → Bool
takes_all_stations area s = is_every s.station && takes_all_channels s && is_everywhere area

-- a network has a station that is asked for
abbrev pub has_station : List LineValues → Area → Selection → LineValues → Bool
has_station live area s e =
    takes_all_stations area s || list_any (is_inner_station live area s e) (stations_of e live)

-- a selection matches the codes of a line, and its window is met
abbrev pub names_network : Selection → LineValues → Bool
names_network s e = is_match_any s.network (key_parts_of e).first && line_meets s e

abbrev pub names_station : Selection → LineValues → Bool
names_station s e = is_match_any s.station (key_parts_of e).second && names_network s e

abbrev pub names_channel : Selection → LineValues → Bool
names_channel s e = matches_channel s e && names_station s e

-- some selection asks for the line of a network, of a station, of a channel
abbrev pub selects_network : List LineValues → StationQuery → LineValues → Bool
selects_network live q e = list_any (λ s. names_network s e && has_station live q.area s e) q.selections

abbrev pub selects_station : List LineValues → StationQuery → LineValues → Bool
selects_station live q e = list_any (λ s. names_station s e && has_channel live s e) q.selections

abbrev pub selects_channel : StationQuery → LineValues → Bool
selects_channel q e = list_any (λ s. names_channel s e) q.selections

-- a line passes the comparisons, and its place is in the area
abbrev pub is_eligible : StationQuery → LineValues → Bool
is_eligible q e = line_passes q e && is_in_area q.area e

-- the line of a network, of a station, of a channel is asked for
abbrev pub asks_network : List LineValues → StationQuery → LineValues → Bool
asks_network live q e = is_line_of Net e && line_passes q e && selects_network live q e

abbrev pub asks_station : List LineValues → StationQuery → LineValues → Bool
asks_station live q e = is_line_of Sta e && is_eligible q e && selects_station live q e

abbrev pub asks_channel : StationQuery → LineValues → Bool
asks_channel q e = is_line_of Cha e && is_eligible q e && selects_channel q e

-- a live line is asked for at a level
abbrev pub is_asked_at : Level → List LineValues → StationQuery → LineValues → Bool
is_asked_at level.Network live q e = asks_network live q e
is_asked_at level.Station live q e = asks_station live q e
is_asked_at level.Channel live q e = asks_channel q e

-- a live line is asked for
abbrev pub is_line_asked : List LineValues → StationQuery → LineValues → Bool
is_line_asked live q e = is_asked_at q.level live q e

-- the lines that are asked for; since a catalog's lines are in the order of their keys, these are in that
-- of codes and start
abbrev pub asked_lines : List LineValues → StationQuery → List LineValues
asked_lines live q = filter (is_line_asked live q) live

-- the code of a station whose epoch is within that of a network
abbrev pub station_within : LineValues → LineValues → Option (List ℕ)
station_within e t = if is_line_of Sta t && contains e t then Some (key_parts_of t).second else None

-- the codes of the stations that have such an epoch, in order, each once
abbrev pub station_codes : List LineValues → LineValues → List (List ℕ)
station_codes live e = in_order text_cmp [] (filter_map (station_within e) (stations_of e live))

-- how many stations a network has
abbrev pub total_stations : List LineValues → LineValues → ℕ
total_stations live e = length (station_codes live e)
