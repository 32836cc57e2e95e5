-- Rows with the same bytes.
use Rattle.std.specs.Prelude.{ℕ, Bool, false, List, Option, Some, None}
use Rattle.std.specs.List.{list_any, slice_get}
use Rattle.std.specs.Str.{bytes_eq}
use Rattle.std.specs.declared.ops.Bound.TheVariants.{Included, Excluded}
use Rattle.std.specs.BTreeSet.{BTreeSet, keys_between}
use Rattle.mseed_header.specs.declared.row.Row.{Row}
use Rattle.time_index.specs.declared.spot.Spot.{Spot}
use Rattle.time_index.specs.declared.channels.Channel.{Channel}
use Rattle.time_index.specs.Spots.{spot_cmp}

abbrev pub has_image_or : List ℕ → Option Row → Bool
has_image_or image None = false
has_image_or image (Some row) = bytes_eq row.image image

-- the row at a place has these bytes
abbrev pub has_image_at : List Row → List ℕ → ℕ → Bool
has_image_at rows image place = has_image_or image (slice_get rows place)

-- the first spot with the start and the fingerprint of this one
abbrev pub first_twin : Spot → Spot
first_twin spot = record { start = spot.start; fingerprint = spot.fingerprint; place = 0 }

-- a row has these bytes, of those before a spot with its start and its fingerprint
abbrev pub is_twin_in : List Row → List ℕ → Spot → BTreeSet Spot → Bool
is_twin_in rows image spot spots =
    list_any (λ other. has_image_at rows image other.place) (keys_between spot_cmp (Included (first_twin spot)) (Excluded spot) spots)

abbrev pub is_twin : List Row → List ℕ → Spot → Option Channel → Bool
is_twin rows image spot None = false
is_twin rows image spot (Some channel) = is_twin_in rows image spot channel.spots
