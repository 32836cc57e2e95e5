-- Where the lines that a query asks for stand among the live ones.
use Rattle.std.specs.Prelude.{ℕ, Bool, true, false, List, [], ◌∷◌, filter, Option, Some, None}
use Rattle.std.specs.declared.cmp.Ordering.{Ordering}
use Rattle.std.specs.Ordering.{nat_cmp, ordering_then, is_eq}
use Rattle.std.specs.Str.{bytes_eq}
use Rattle.channel_globs.specs.Matching.{single_code}
use Rattle.dataselect.specs.declared.query.Selection.{Selection}
use Rattle.query_parameters.specs.declared.level.Level.{Level}
use Rattle.query_parameters.specs.declared.level.Level.TheVariants as level
use Rattle.query_words.specs.declared.station.StationQuery.{StationQuery}
use Rattle.epochs.specs.Lines.{LineValues}
use Rattle.epoch_catalog.specs.declared.families.Family.{Family}
use Rattle.epoch_catalog.specs.declared.families.Family.TheVariants as family
use Rattle.epoch_rules.specs.KeyOrder.{KeyParts, key_parts_of, text_cmp}
use Rattle.station_text.specs.Asked.{is_line_asked}
use Rattle.station_text.specs.Matched.{on_network, on_station}
use Rattle.station_text.specs.declared.place.Place.{Place}

-- the family of a level's lines, and the rank of their keys
abbrev pub level_family : Level → Family
level_family level.Network = family.Networks
level_family level.Station = family.Stations
level_family level.Channel = family.Channels

abbrev pub level_rank : Level → ℕ
level_rank level.Network = 0
level_rank level.Station = 1
level_rank level.Channel = 2

-- the lines of a level are those of stations
abbrev pub is_of_stations : Level → Bool
is_of_stations level.Network = false
is_of_stations level.Station = true
is_of_stations level.Channel = true

-- the one station that a selection names, where its network and its station are written as one code each
abbrev pub both_codes : Option (List ℕ) → Option (List ℕ) → Option Place
both_codes None station = None
both_codes (Some network) None = None
both_codes (Some network) (Some station) = Some (record { network = network; station = station })

abbrev pub place_of : Selection → Option Place
place_of s = both_codes (single_code s.network) (single_code s.station)

abbrev pub is_given : Option Place → Bool
is_given None = false
is_given (Some place) = true

abbrev pub has_place : Selection → Bool
has_place s = is_given (place_of s)

-- stations by their codes
abbrev pub place_cmp : Place → Place → Ordering
place_cmp a b = ordering_then (text_cmp a.network b.network) (text_cmp a.station b.station)

-- where a key stands to the lines of a station: before them, among them or behind them
abbrev pub place_order : ℕ → Place → KeyParts → Ordering
place_order rank place p = ordering_then (nat_cmp p.rank rank) (ordering_then (text_cmp p.first place.network) (text_cmp p.second place.station))

abbrev pub stands_at : ℕ → Place → LineValues → Bool
stands_at rank place e = is_eq (place_order rank place (key_parts_of e))

-- of the lines of a station those that are asked for
abbrev pub asked_at : List LineValues → StationQuery → Place → List LineValues
asked_at live q place = filter (is_line_asked live q) (filter (stands_at (level_rank q.level) place) live)

-- the selections that match a station's codes
abbrev pub on_place : Place → List Selection → List Selection
on_place place selections = on_station place.station (on_network place.network selections)

-- a selection names that network alone: its network is written as that one code
abbrev pub is_network : List ℕ → Option (List ℕ) → Bool
is_network network None = false
is_network network (Some code) = bytes_eq code network

abbrev pub names_only : List ℕ → Selection → Bool
names_only network s = is_network network (single_code s.network)

-- the network that the first of some selections names alone
abbrev pub first_network : List Selection → Option (List ℕ)
first_network [] = None
first_network (s ∷ ss) = single_code s.network

-- where a key stands to the lines of a network: before them, among them or behind them
abbrev pub network_order : ℕ → List ℕ → KeyParts → Ordering
network_order rank network p = ordering_then (nat_cmp p.rank rank) (text_cmp p.first network)

abbrev pub stands_on : ℕ → List ℕ → LineValues → Bool
stands_on rank network e = is_eq (network_order rank network (key_parts_of e))
