-- The places of the rows that a window may have.
use Rattle.std.specs.Prelude.{ℕ, ◌-◌, ◌^◌, ℤ, pos, negsuc, ◌+ℤ◌, ◌-ℤ◌, Bool, true, ◌&&◌, List, [], ◌∷◌, ◌++◌, map, Option, Some, None, if◌then◌else◌, int_le, int_lt, ◌==◌}
use Rattle.std.specs.List.{list_any, slice_get}
use Rattle.std.specs.Ordering.{is_le}
use Rattle.std.specs.declared.ops.Bound.{Bound}
use Rattle.std.specs.declared.ops.Bound.TheVariants.{Included, Excluded, Unbounded}
use Rattle.std.specs.BTreeMap.{BTreeMap, get}
use Rattle.std.specs.BTreeSet.{BTreeSet, keys_between}
use Rattle.exact_time.specs.declared.moment.Moment.{Moment}
use Rattle.channel_globs.specs.declared.nslc.Nslc.{Nslc}
use Rattle.channel_globs.specs.Matching.{single_code}
use Rattle.channel_globs.specs.Names.{name_cmp}
use Rattle.mseed_header.specs.Quality.{quality_letter}
use Rattle.mseed_header.specs.declared.header.Header.{Header}
use Rattle.mseed_header.specs.declared.row.Row.{Row}
use Rattle.dataselect.specs.declared.order.Rank.{Rank}
use Rattle.dataselect.specs.declared.query.DataQuery.{DataQuery}
use Rattle.dataselect.specs.declared.query.Selection.{Selection}
use Rattle.dataselect.specs.Order.{rank_at}
use Rattle.dataselect.specs.Query.{holds, is_named, is_selected}
use Rattle.time_index.specs.declared.spot.Spot.{Spot}
use Rattle.time_index.specs.declared.channels.Channel.{Channel}
use Rattle.time_index.specs.Spots.{spot_cmp}

-- the first spot that a start can have
abbrev pub first_spot_at : ℤ → Spot
first_spot_at micros = record { start = record { micros = micros }; fingerprint = 0; place = 0 }

-- The least start of rows that last so long at most and reach a moment. There is none where it is too low
-- for a start.
abbrev pub lower_of : Option Moment → ℕ → Option Spot
lower_of None longest = None
lower_of (Some t) longest =
    if int_le (negsuc (2 ^ 63 - 1)) (t.micros -ℤ pos longest) then Some (first_spot_at (t.micros -ℤ pos longest))
    else None

-- The first spot after all that start at a moment or earlier. There is none where it is too high for a
-- start.
abbrev pub upper_of : Option Moment → Option Spot
upper_of None = None
upper_of (Some t) = if int_lt t.micros (pos (2 ^ 63 - 1)) then Some (first_spot_at (t.micros +ℤ pos 1)) else None

abbrev pub from_bound : Option Spot → Bound Spot
from_bound None = Unbounded
from_bound (Some spot) = Included spot

abbrev pub to_bound : Option Spot → Bound Spot
to_bound None = Unbounded
to_bound (Some spot) = Excluded spot

abbrev pub is_forward : Option Spot → Option Spot → Bool
is_forward None upper = true
is_forward (Some lower) None = true
is_forward (Some lower) (Some upper) = is_le (spot_cmp lower upper)

-- the places of the spots from one up to before another
unfoldable pub places_between : Option Spot → Option Spot → BTreeSet Spot → List ℕ
places_between lower upper spots =
    if is_forward lower upper then map (λ spot. spot.place) (keys_between spot_cmp (from_bound lower) (to_bound upper) spots)
    else []

-- of a channel, the places from the window's start less the longest time up to its end
unfoldable pub places_at : Selection → Channel → List ℕ
places_at s channel = places_between (lower_of s.start channel.longest) (upper_of s.end) channel.spots

-- the same of each channel that the selection names
abbrev pub places_in : Selection → List (Nslc × Channel) → List ℕ
places_in s [] = []
places_in s (entry ∷ entries) = if is_named s entry.0 then places_at s entry.1 ++ places_in s entries else places_in s entries

-- the one name whose codes these are, where there are four
abbrev pub name_of_codes : Option (List ℕ) → Option (List ℕ) → Option (List ℕ) → Option (List ℕ) → Option Nslc
name_of_codes None station location channel = None
name_of_codes (Some network) None location channel = None
name_of_codes (Some network) (Some station) None channel = None
name_of_codes (Some network) (Some station) (Some location) None = None
name_of_codes (Some network) (Some station) (Some location) (Some channel) =
    Some (record { network = network; station = station; location = location; channel = channel })

-- the one name that a selection without wildcards matches
abbrev pub single_name : Selection → Option Nslc
single_name s = name_of_codes (single_code s.network) (single_code s.station) (single_code s.location) (single_code s.channel)

abbrev pub places_of_channel : Selection → Option Channel → List ℕ
places_of_channel s None = []
places_of_channel s (Some channel) = places_at s channel

abbrev pub places_by : Option Nslc → Selection → BTreeMap Nslc Channel → List ℕ
places_by None s channels = places_in s channels.entries
places_by (Some name) s channels = places_of_channel s (get name_cmp channels name)

-- the places of the rows that a selection names and whose time may meet its window
abbrev pub window_places : Selection → BTreeMap Nslc Channel → List ℕ
window_places s channels = places_by (single_name s) s channels

abbrev pub is_place_among : ℕ → List ℕ → Bool
is_place_among place places = list_any (λ p. p == place) places

-- the record has the asked quality
abbrev pub is_of_quality : DataQuery → Header → Bool
is_of_quality query h = holds (λ q. quality_letter q == quality_letter h.quality) query.quality

abbrev pub rank_if : (Row → Bool) → ℕ → Option Row → List Rank → List Rank
rank_if test place None ranks = ranks
rank_if test place (Some row) ranks = if test row then rank_at place row ∷ ranks else ranks

-- the ranks of the rows at these places that pass a test
abbrev pub ranks_at : (Row → Bool) → List Row → List ℕ → List Rank
ranks_at test rows [] = []
ranks_at test rows (place ∷ places) = rank_if test place (slice_get rows place) (ranks_at test rows places)

-- the row is seen, and of the query's selections that one asks for it
abbrev pub passes_by : (Row → Bool) → DataQuery → Selection → Row → Bool
passes_by seen query s row = seen row && (is_of_quality query row.header && is_selected s row.header)

-- the ranks of the rows that the selections find, one selection after another
abbrev pub ranks_found : (Row → Bool) → DataQuery → List Row → BTreeMap Nslc Channel → List Selection → List Rank
ranks_found seen query rows channels [] = []
ranks_found seen query rows channels (s ∷ selections) =
    ranks_at (passes_by seen query s) rows (window_places s channels) ++ ranks_found seen query rows channels selections
