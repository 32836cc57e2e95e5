-- Which header stands in a record's bytes (SEED 2.4, fixed section of data header, blockettes 1000 and
-- 1001), and why bytes begin with no record.
use Rattle.std.specs.Prelude.{◌≡◌, ◌==◌, not, ◌&&◌, ℕ, ◌≤◌, Bool, false, List, length, slice_index, Option, Some, IsSome, IfSome, ℤ, pos, ◌+ℤ◌, ◌*ℤ◌, bit_and, nat_le, if◌then◌else◌}
use Rattle.std.specs.Int.{IsInRange}
use Rattle.std.specs.declared.cmp.Ordering.TheVariants.{Greater}
use Rattle.std.proofs.Props.{props}
use Rattle.exact_time.specs.BTime.{IsBTime, btime_micros}
use Rattle.exact_time.specs.Rate.{IsFraction, seed_rate}
use Rattle.exact_time.specs.SampleTime.{compare_sample}
use Rattle.exact_time.specs.declared.ratio.Ratio.{Ratio}
use Rattle.channel_globs.specs.declared.nslc.Nslc.{Nslc}
use Rattle.mseed_header.specs.Blockettes.{HasChain, HasChain-prop, RefusesChain, EndWithin, offsets_of, micros_of, record_size}
use Rattle.mseed_header.specs.CodeField.{IsCodeField, IsLocationField}
use Rattle.mseed_header.specs.Fields.{u16_at, i16_at, i32_at, bytes_at, time_at}
use Rattle.mseed_header.specs.Quality.{quality_letter}
use Rattle.mseed_header.specs.Steps.{step, unless, no_fault}
use Rattle.mseed_header.specs.declared.header.Header.{Header}
use Rattle.mseed_header.specs.declared.header.RecordFault.{RecordFault}
use Rattle.mseed_header.specs.declared.header.RecordFault.TheVariants.{Short, Year, Time, Quality, Code, Chain, NoBlockette1000, Reach}
use Rattle.mseed_header.specs.declared.quality.Quality as letter

-- the year of the start time is 1900 to 2055 in this byte order
abbrev pub IsYear : Bool → List ℕ → Type 0
IsYear little bytes = IsInRange 1900 2055 (u16_at little bytes 20)

-- The byte order: the lowest byte stands first where the year isn't 1900 to 2055 the other way. No
-- year is so both ways.
abbrev pub little_of : List ℕ → Bool
little_of bytes = not (nat_le 1900 (u16_at false bytes 20) && nat_le (u16_at false bytes 20) 2055)

-- the time correction (field 16), in 0.0001 s; 0 where bit 1 of the activity flags (field 12) says that it
-- is in the start time already
abbrev pub correction : Bool → List ℕ → ℤ
correction little bytes = if bit_and (slice_index bytes 36) 2 == 0 then i32_at little bytes 40 else pos 0

-- microseconds since 1970: the start time (field 8) with its correction, and with the microseconds of
-- blockette 1001 too
abbrev pub corrected_micros : Bool → List ℕ → ℤ
corrected_micros little bytes = btime_micros (time_at little bytes) +ℤ correction little bytes *ℤ pos 100

abbrev pub start_micros : Bool → List ℕ → ℤ
start_micros little bytes = corrected_micros little bytes +ℤ micros_of little bytes (offsets_of little bytes)

-- the four codes (fields 4 to 7)
pub record IsName (bytes : List ℕ) (name : Nslc) : Type 0 where
  pub station : IsCodeField (bytes_at bytes 8 5) name.station
  pub location : IsLocationField (bytes_at bytes 13 2) name.location
  pub channel : IsCodeField (bytes_at bytes 15 3) name.channel
  pub network : IsCodeField (bytes_at bytes 18 2) name.network

-- the number of samples (field 9)
abbrev pub samples_of : Bool → List ℕ → ℕ
samples_of little bytes = u16_at little bytes 30

-- the sample rate, by the factor and the multiplier (fields 10 and 11); 0 where there are no samples
abbrev pub rate_of : Bool → List ℕ → ℕ × ℕ
rate_of little bytes = if samples_of little bytes == 0 then (0, 1) else seed_rate (i16_at little bytes 32) (i16_at little bytes 34)

abbrev pub IsRate : Bool → List ℕ → Ratio → Type 0
IsRate little bytes rate = IsFraction rate.num rate.den (rate_of little bytes)

-- the time after the last of so many samples is not later than 2600-01-01T00:00:00
abbrev pub EndsInTime : (start : ℤ) (samples : ℕ) → Ratio → Type 0
EndsInTime start samples rate = ¬ (compare_sample start samples rate (pos 19_880_899_200_000_000) ≡ Greater)

-- the bytes begin with a whole record with this header
pub record HasHeader (bytes : List ℕ) (h : Header) : Type 0 where
  pub year : IsYear h.little bytes
  pub time : IsBTime (time_at h.little bytes)
  pub start : h.start.micros ≡ start_micros h.little bytes
  pub quality : quality_letter h.quality ≡ slice_index bytes 6
  pub name : IsName bytes h.name
  pub samples : h.samples ≡ samples_of h.little bytes
  pub rate : IsRate h.little bytes h.rate
  pub chain : HasChain h.little bytes
  pub size : record_size h.little bytes (offsets_of h.little bytes) ≡ Some h.length
  pub within : EndWithin h.little bytes h.length (offsets_of h.little bytes)
  pub whole : h.length ≤ length bytes
  pub reach : EndsInTime h.start.micros h.samples h.rate

-- These bytes are a whole record with this header. The word stays closed where it isn't asked for, since
-- every row keeps this fact and proofs about rows would otherwise compute with all of it.
unfoldable pub IsRecord : List ℕ → Header → Type 0
IsRecord image h = HasHeader image h × (h.length ≡ length image)

-- there is a quality with the letter, and there are the four codes
abbrev pub HasQuality : List ℕ → Type 0
HasQuality bytes = (q : letter.Quality) × (quality_letter q ≡ slice_index bytes 6)

abbrev pub HasName : List ℕ → Type 0
HasName bytes = (name : Nslc) × IsName bytes name

-- a blockette gives the record's length; no blockette ends behind it; there are so many bytes
abbrev pub size_of : Bool → List ℕ → Option ℕ
size_of little bytes = record_size little bytes (offsets_of little bytes)

abbrev pub HasSize : Bool → List ℕ → Type 0
HasSize little bytes = IsSome (size_of little bytes)

abbrev pub HoldsBlockettes : Bool → List ℕ → Type 0
HoldsBlockettes little bytes = IfSome (size_of little bytes) (λ size. EndWithin little bytes size (offsets_of little bytes))

abbrev pub IsWhole : Bool → List ℕ → Type 0
IsWhole little bytes = IfSome (size_of little bytes) (λ size. size ≤ length bytes)

-- the time after the last sample, at the one rate that there is
abbrev pub IsInTime : Bool → List ℕ → Type 0
IsInTime little bytes = (rate : Ratio) → IsRate little bytes rate → EndsInTime (start_micros little bytes) (samples_of little bytes) rate

-- Why bytes begin with no record, by ten steps. The last five, behind the codes:
abbrev pub RefusesBody : Bool → List ℕ → RecordFault → Type 0
RefusesBody little bytes =
    step (HasChain little bytes) (RefusesChain little bytes) (
    unless (HasSize little bytes) NoBlockette1000 (
    unless (HoldsBlockettes little bytes) Chain (
    unless (IsWhole little bytes) Short (
    unless (IsInTime little bytes) Reach
    no_fault))))

-- with the three before them, behind the byte order:
abbrev pub RefusesFields : Bool → List ℕ → RecordFault → Type 0
RefusesFields little bytes =
    unless (IsBTime (time_at little bytes)) Time (
    unless (HasQuality bytes) Quality (
    unless (HasName bytes) Code (
    RefusesBody little bytes)))

-- and all ten
abbrev pub RefusesRecord : List ℕ → RecordFault → Type 0
RefusesRecord bytes =
    unless (48 ≤ length bytes) Short (
    unless (IsYear (little_of bytes) bytes) Year (
    RefusesFields (little_of bytes) bytes))

-- each of these facts has one proof at most
pub HasHeader-prop : (bytes : List ℕ) (h : Header) → IsProp (HasHeader bytes h)
HasHeader-prop bytes h = hlevel (props, HasChain-prop)

pub IsRecord-prop : (image : List ℕ) (h : Header) → IsProp (IsRecord image h)
unfolding IsRecord
IsRecord-prop image h = hlevel (props, HasHeader-prop)
