-- Where rows stand: the spots of each channel.
use Rattle.std.specs.Prelude.{ℕ, ◌*◌, Bool, false, List, Option, Some, None}
use Rattle.std.specs.Int.{div_ceil}
use Rattle.std.specs.declared.cmp.Ordering.{Ordering}
use Rattle.std.specs.Ordering.{nat_cmp, int_cmp, ordering_then, is_eq}
use Rattle.std.specs.BTreeMap.{BTreeMap, get}
use Rattle.std.specs.BTreeSet.{contains}
use Rattle.std.specs.Hash.FoldHasher as folding
use Rattle.exact_time.specs.SampleTime.{sample_parts}
use Rattle.channel_globs.specs.declared.nslc.Nslc.{Nslc}
use Rattle.mseed_header.specs.Times.{last_index}
use Rattle.mseed_header.specs.declared.header.Header.{Header}
use Rattle.mseed_header.specs.declared.row.Row.{Row}
use Rattle.channel_globs.specs.Names.{name_cmp}
use Rattle.time_index.specs.declared.spot.Spot.{Spot}
use Rattle.time_index.specs.declared.channels.Channel.{Channel}

-- A short number of a record's bytes. Nothing but time depends on which it is: equal bytes have equal
-- numbers.
unfoldable pub fingerprint_of : List ℕ → ℕ
fingerprint_of image = folding.finish (folding.write folding.initial image)

-- by start, then by fingerprint, then by place
abbrev pub spot_cmp : Spot → Spot → Ordering
spot_cmp a b =
    ordering_then (int_cmp a.start.micros b.start.micros)
    (ordering_then (nat_cmp a.fingerprint b.fingerprint) (nat_cmp a.place b.place))

-- the spot of a row that has this place in the shelf
abbrev pub spot_at : ℕ → Row → Spot
spot_at place row = record { start = row.header.start; fingerprint = fingerprint_of row.image; place = place }

-- from a record's first sample to its last, in whole microseconds, rounded up; 0 where the rate is 0
abbrev pub micros_lasted : Header → ℕ
micros_lasted h = div_ceil (last_index h * h.rate.den * 1_000_000) (sample_parts h.rate)

abbrev pub is_same : Nslc → Nslc → Bool
is_same a b = is_eq (name_cmp a b)

abbrev pub has : Option Channel → Spot → Bool
has None spot = false
has (Some channel) spot = contains spot_cmp channel.spots spot

abbrev pub longest_in : Option Channel → ℕ
longest_in None = 0
longest_in (Some channel) = channel.longest

-- the channel of that name has that spot
abbrev pub has_spot : BTreeMap Nslc Channel → Nslc → Spot → Bool
has_spot channels name spot = has (get name_cmp channels name) spot

-- how long the rows of that name last at most, in microseconds; 0 where there are none
abbrev pub longest_of : BTreeMap Nslc Channel → Nslc → ℕ
longest_of channels name = longest_in (get name_cmp channels name)
