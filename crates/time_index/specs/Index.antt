-- What the channels of a shelf say of its rows.
use Rattle.std.specs.Prelude.{◌≡◌, ℕ, ◌*◌, ◌≤◌, Bool, false, ◌&&◌, List, Option, Some, None, IfSome}
use Rattle.std.specs.List.{slice_get, AllByRecursion}
use Rattle.std.specs.Ordering.{eq_by_cmp}
use Rattle.std.specs.BTreeMap.{BTreeMap}
use Rattle.exact_time.specs.SampleTime.{sample_parts}
use Rattle.channel_globs.specs.declared.nslc.Nslc.{Nslc}
use Rattle.mseed_header.specs.Times.{last_index}
use Rattle.mseed_header.specs.declared.header.Header.{Header}
use Rattle.mseed_header.specs.declared.row.Row.{Row}
use Rattle.time_index.specs.declared.spot.Spot.{Spot}
use Rattle.time_index.specs.declared.channels.Channel.{Channel}
use Rattle.time_index.specs.Spots.{spot_cmp, spot_at, is_same, has_spot, longest_of}

-- there is a row, it has this name, and the spot is its own
abbrev pub is_there : Nslc → Spot → Option Row → Bool
is_there name spot None = false
is_there name spot (Some row) = is_same row.header.name name && eq_by_cmp spot_cmp spot (spot_at spot.place row)

-- a row of this name stands at the spot
abbrev pub stands : List Row → Nslc → Spot → Bool
stands rows name spot = is_there name spot (slice_get rows spot.place)

-- a row has this name, if there is one
abbrev pub IsOfName : Nslc → Option Row → Type 0
IsOfName name o = IfSome o (λ row. row.header.name ≡ name)

-- the rows at these spots have this name
abbrev pub AreOfName : List Row → Nslc → List Spot → Type 0
AreOfName rows name spots = AllByRecursion (λ spot. IsOfName name (slice_get rows spot.place)) spots

-- The last sample is at most so many microseconds after the first: each sample period has `den / num`
-- seconds, and both sides are multiplied by the divisor. At rate 0 there is one sample.
abbrev pub LastsAtMost : Header → ℕ → Type 0
LastsAtMost h micros = last_index h * h.rate.den * 1_000_000 ≤ micros * sample_parts h.rate

-- The channels together have each row's spot once, under the row's name, and no other spot. No row lasts
-- longer than its channel says.
pub record IsChannelIndex (rows : List Row) (channels : BTreeMap Nslc Channel) : Type 0 where
  pub spots : (name : Nslc) (spot : Spot) → has_spot channels name spot ≡ stands rows name spot
  pub longest : (place : ℕ) (row : Row) → slice_get rows place ≡ Some row → LastsAtMost row.header (longest_of channels row.header.name)
