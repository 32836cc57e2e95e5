-- The selections of each station, where each selection names one.
use Rattle.std.specs.Prelude.{Bool, false, List, [], map, Option, Some, None}
use Rattle.std.specs.Ordering.{is_eq}
use Rattle.std.specs.BTreeMap.{BTreeMap, get}
use Rattle.dataselect.specs.declared.query.Selection.{Selection}
use Rattle.station_text.specs.Found.{place_cmp, place_of}
use Rattle.station_text.specs.Matched.{selection_at}
use Rattle.station_text.specs.declared.groups.Group.{Group}
use Rattle.station_text.specs.declared.place.Place.{Place}

abbrev pub is_same_place : Place → Place → Bool
is_same_place a b = is_eq (place_cmp a b)

-- a selection names that station
abbrev pub is_place : Place → Option Place → Bool
is_place place None = false
is_place place (Some other) = is_same_place other place

abbrev pub is_of : Place → Selection → Bool
is_of place s = is_place place (place_of s)

abbrev pub group_in : Option Group → List Selection
group_in None = []
group_in (Some group) = map selection_at group.selections

-- the selections that are kept for a station
abbrev pub group_at : BTreeMap Place Group → Place → List Selection
group_at groups place = group_in (get place_cmp groups place)
