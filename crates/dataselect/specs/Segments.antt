-- Segments: the chosen rows in their order, cut where a row doesn't follow the one before it.
use Rattle.std.specs.Prelude.{ℕ, ◌*◌, ◌-◌, ◌==◌, Bool, true, false, not, ◌&&◌, ◌||◌, List, length, slice_index, Option, Some, None, ℤ, pos, ◌-ℤ◌, ◌*ℤ◌, nat_lt, nat_le, unsigned_abs}
use Rattle.std.specs.List.{slice_get}
use Rattle.std.specs.Str.{bytes_eq}
use Rattle.exact_time.specs.SampleTime.{sample_micros, sample_parts, half_parts}
use Rattle.exact_time.specs.declared.ratio.Ratio.{Ratio}
use Rattle.channel_globs.specs.declared.nslc.Nslc.{Nslc}
use Rattle.mseed_header.specs.Quality.{quality_letter}
use Rattle.mseed_header.specs.Times.{next_index}
use Rattle.mseed_header.specs.declared.header.Header.{Header}
use Rattle.mseed_header.specs.declared.row.Row.{Row}
use Rattle.dataselect.specs.declared.lengths.Length.{Length}
use Rattle.dataselect.specs.Runs.{runs_by}

abbrev pub is_same_name : Nslc → Nslc → Bool
is_same_name a b =
    bytes_eq a.network b.network && bytes_eq a.station b.station
    && bytes_eq a.location b.location && bytes_eq a.channel b.channel

-- rates in lowest terms
abbrev pub is_same_rate : Ratio → Ratio → Bool
is_same_rate a b = a.num == b.num && a.den == b.den

-- a record's next, the time after its last sample, lies at `next_micros / sample_parts` microseconds
-- since 1970; it is the start where the rate is 0
abbrev pub next_micros : Header → ℤ
next_micros h = sample_micros h.start.micros (next_index h) h.rate

-- how far apart a moment and a record's next are, in microseconds times `sample_parts`
abbrev pub apart_parts : Header → ℤ → ℕ
apart_parts h micros = unsigned_abs (micros *ℤ pos (sample_parts h.rate) -ℤ next_micros h)

-- A record breaks from the one before it: their names, qualities or rates differ, or the rate is 0, or
-- its start and the next of the one before differ by more than half a sample period.
unfoldable pub is_break : Header → Header → Bool
is_break before h =
    not (is_same_name before.name h.name)
    || (not (quality_letter before.quality == quality_letter h.quality)
    || (not (is_same_rate before.rate h.rate)
    || (h.rate.num == 0 || nat_lt (half_parts before.rate) (apart_parts before h.start.micros))))

abbrev pub breaks_or : Option Row → Option Row → Bool
breaks_or (Some before) (Some row) = is_break before.header row.header
breaks_or (Some before) None = true
breaks_or None row = true

-- the same of the rows at two places
abbrev pub breaks_at : List Row → ℕ → ℕ → Bool
breaks_at rows i j = breaks_or (slice_get rows i) (slice_get rows j)

-- the segments of the rows at these places: lists of places, from one break to before the next
abbrev pub segments_of : List Row → List ℕ → List (List ℕ)
segments_of rows places = runs_by (breaks_at rows) places

-- from one record's start to another's next, as an exact fraction
abbrev pub length_between : Header → Header → Length
length_between first last = record { micros = apart_parts last first.start.micros; parts = sample_parts last.rate }

abbrev pub length_or : Option Row → Option Row → Length
length_or (Some first) (Some last) = length_between first.header last.header
length_or (Some first) None = record { micros = 0; parts = 1 }
length_or None last = record { micros = 0; parts = 1 }

-- the length of a segment: from its first row's start to its last row's next
unfoldable pub segment_length : List Row → List ℕ → Length
segment_length rows segment =
    length_or (slice_get rows (slice_index segment 0)) (slice_get rows (slice_index segment (length segment - 1)))

-- the length is at least so many microseconds
abbrev pub lasts : ℕ → Length → Bool
lasts minimum l = nat_le (minimum * l.parts) l.micros

-- one length is greater than another: each is multiplied by the divisor of the other
abbrev pub exceeds : Length → Length → Bool
exceeds a b = nat_lt (b.micros * a.parts) (a.micros * b.parts)

abbrev pub are_same_or : Option Row → Option Row → Bool
are_same_or (Some a) (Some b) = is_same_name a.header.name b.header.name
are_same_or (Some a) None = false
are_same_or None b = false

-- two segments have one name: each has the name of its first row
unfoldable pub have_one_name : List Row → List ℕ → List ℕ → Bool
have_one_name rows a b = are_same_or (slice_get rows (slice_index a 0)) (slice_get rows (slice_index b 0))

-- the segment is at least so many microseconds long
abbrev pub is_long : List Row → ℕ → List ℕ → Bool
is_long rows minimum segment = lasts minimum (segment_length rows segment)

-- one segment is longer than another
abbrev pub is_longer : List Row → List ℕ → List ℕ → Bool
is_longer rows a b = exceeds (segment_length rows a) (segment_length rows b)
