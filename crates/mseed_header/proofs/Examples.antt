-- Worked examples of the definitions, over the head of a record of IU ANMO 00 BHZ: 100 samples at 20 Hz.
use Rattle.std.proofs.Common.{◌≡◌, ℕ, List, [], ◌∷◌, ◌++◌, false, true, refl, codes, arith, pos, negsuc, replicate, zero, suc, Some, subst, inl, inr}
use Rattle.std.specs.List.{slice_get}
use Rattle.std.proofs.Math.Nat.{one-dvd}
use Rattle.std.proofs.lemmas.Int.{ints}
use Rattle.exact_time.specs.Rate.{seed_rate}
use Rattle.exact_time.specs.declared.ratio.Ratio.{Ratio}
use Rattle.exact_time.proofs.Examples.{new_year}
use Rattle.mseed_header.proofs.Batches.{some_left}
use Rattle.mseed_header.specs.CodeField.{IsCodeField, IsLocationField, without_fill, location_of}
use Rattle.mseed_header.specs.Fields.{number_at, u16_at, i16_at, bytes_at, time_at}
use Rattle.mseed_header.proofs.Fronts.{header_in_front, record_of}
use Rattle.mseed_header.specs.Blockettes.{HasChain, RefusesChain, IsPast, reach_at, offsets_of, record_size, micros_of, end_after}
use Rattle.mseed_header.specs.Header.{HasHeader, IsRecord, RefusesRecord, EndsInTime, little_of, correction, rate_of}
use Rattle.mseed_header.specs.Records.{AreRecords, IsPlaced, RefusesBatch, IsBatchFault}
use Rattle.mseed_header.specs.Times.{last_index, next_index}
use Rattle.mseed_header.specs.declared.cut.CutFault.TheVariants.{Bad, OutOfMemory}
use Rattle.mseed_header.specs.declared.header.Header.{Header}
use Rattle.mseed_header.specs.declared.header.RecordFault.TheVariants.{Short, Year, Chain}
use Rattle.mseed_header.specs.declared.quality.Quality.TheVariants.{D}
use Rattle.mseed_header.specs.declared.row.Row.{Row}

abbrev pub anmo_head : List ℕ
anmo_head =
    codes "000001D ANMO 00BHZIU" ++ (0x07 ∷ 0xe8 ∷ 0x00 ∷ 0x20 ∷ 0x00 ∷ 0x00 ∷ 0x00 ∷ 0x00 ∷ 0x00 ∷ 0x00 ∷ 0x00 ∷ 0x64
    ∷ 0x00 ∷ 0x14 ∷ 0x00 ∷ 0x01 ∷ 0x00 ∷ 0x00 ∷ 0x00 ∷ 0x01 ∷ 0x00 ∷ 0x00 ∷ 0x00 ∷ 0x00 ∷ 0x00 ∷ 0x40 ∷ 0x00 ∷ 0x30
    ∷ 0x03 ∷ 0xe8 ∷ 0x00 ∷ 0x00 ∷ 0x0a ∷ 0x01 ∷ 0x09 ∷ 0x00 ∷ [])

-- the year, and 2055 with its lowest byte first
year : u16_at false anmo_head 20 ≡ 2024
year = refl

little_year : number_at true (0x07 ∷ 0x08 ∷ []) 0 2 ≡ 2055
little_year = refl

big : little_of anmo_head ≡ false
big = refl

little : little_of (replicate 20 0 ++ (0x07 ∷ 0x08 ∷ [])) ≡ true
little = refl

-- no year either way
no_year : RefusesRecord (replicate 48 0) Year
no_year = inr (omega arith, inl ((λ year. absurd (omega (arith, year))), refl))

day : (time_at false anmo_head).day ≡ 32
day = refl

samples : u16_at false anmo_head 30 ≡ 100
samples = refl

rate : seed_rate (i16_at false anmo_head 32) (i16_at false anmo_head 34) ≡ (20, 1)
rate = refl

station : IsCodeField (bytes_at anmo_head 8 5) (codes "ANMO")
station = record { code_is = refl; letters = refl; some = omega arith }

location : IsLocationField (bytes_at anmo_head 13 2) (codes "00")
location = record { code_is = refl; letters = refl }

-- the fill at the end is left out, spaces and NUL bytes alike
filled : without_fill (codes "IU" ++ (0 ∷ 32 ∷ 0 ∷ [])) ≡ codes "IU"
filled = refl

blank : location_of (without_fill (codes "  ")) ≡ codes "  "
blank = refl

blank_by_hyphens : location_of (without_fill (codes "--")) ≡ codes "  "
blank_by_hyphens = refl

-- the header
abbrev pub twenty_hertz : Ratio
twenty_hertz = record {
  num = 20;
  den = 1;
  num_in = omega arith;
  den_in = omega arith;
  above = omega arith;
  lowest = (one-dvd 20, one-dvd 1, λ d p q. q);
}

abbrev pub anmo_header : Header
anmo_header = record {
  name = record { network = codes "IU"; station = codes "ANMO"; location = codes "00"; channel = codes "BHZ" };
  quality = D;
  start = record { micros = pos 1_706_745_600_000_000 };
  samples = 100;
  rate = twenty_hertz;
  length = 512;
  little = false;
}

-- the whole record
abbrev pub anmo_image : List ℕ
anmo_image = anmo_head ++ replicate 456 0

-- its chain is one blockette 1000, which gives the length 2^9 and no microseconds
offsets : offsets_of false anmo_image ≡ 48 ∷ []
offsets = refl

chain : HasChain false anmo_image
chain = record {
  chain = record { sound = (refl, omega arith, omega arith, omega arith, tt); ends = refl };
  exponent = (omega arith, omega arith);
}

length_512 : record_size false anmo_image (offsets_of false anmo_image) ≡ Some 512
length_512 = refl

-- the bytes have this header
pub found : HasHeader anmo_image anmo_header
found = record {
  year = (omega arith, omega arith);
  time = record { day = (omega arith, omega arith); hour = omega arith; minute = omega arith; second = omega arith; fraction = omega arith };
  start = rw new_year refl;
  quality = refl;
  name = record {
    station = station;
    location = location;
    channel = record { code_is = refl; letters = refl; some = omega arith };
    network = record { code_is = refl; letters = refl; some = omega arith };
  };
  samples = refl;
  rate = refl;
  chain = chain;
  size = refl;
  within = (omega arith, tt);
  whole = omega arith;
  reach = λ e. (cc);
}

pub anmo_record : IsRecord anmo_image anmo_header
anmo_record = record_of anmo_image anmo_header found refl

-- so have those bytes with more behind them
found_in_front : HasHeader (anmo_image ++ codes "000002") anmo_header
found_in_front = header_in_front anmo_image (codes "000002") anmo_header anmo_record

-- a chain of a blockette 1000 and a blockette 1001, with the lowest byte first: minus 2 microseconds
abbrev two_blockettes : List ℕ
two_blockettes = replicate 46 0 ++ (48 ∷ 0 ∷ 0xe8 ∷ 3 ∷ 56 ∷ 0 ∷ 11 ∷ 0 ∷ 7 ∷ 0 ∷ 0xe9 ∷ 3 ∷ 0 ∷ 0 ∷ 0 ∷ 0xfe ∷ 0 ∷ 0 ∷ [])

two_offsets : offsets_of true two_blockettes ≡ 48 ∷ 56 ∷ []
two_offsets = refl

two_micros : micros_of true two_blockettes (48 ∷ 56 ∷ []) ≡ negsuc 1
two_micros = refl

size_128 : record_size true two_blockettes (48 ∷ 56 ∷ []) ≡ Some 128
size_128 = refl

two_ends : end_after true two_blockettes 48 (48 ∷ 56 ∷ []) ≡ 64
two_ends = refl

-- a chain that goes back: the front of one offset leads to 48, which is below its end at 56
abbrev going_back : List ℕ
going_back = replicate 47 0 ++ (48 ∷ 3 ∷ 0xe8 ∷ 0 ∷ 48 ∷ 11 ∷ 1 ∷ 9 ∷ 0 ∷ [])

goes_back : RefusesChain false going_back Chain
goes_back = record {
  front = 48 ∷ [];
  sound = (refl, omega arith, omega arith, omega arith, tt);
  exponent = (omega arith, omega arith);
  more = omega arith;
  refused = inl ((λ h. absurd (omega (arith, h))), refl);
}

-- of a blockette at the end of the bytes the first 4 count, and a known record of 128 bytes is passed at 129
cut_off : reach_at false (replicate 126 0) 124 ≡ 128
cut_off = refl

past : IsPast (Some 128) 129
past = omega arith

-- half a second earlier, but not where the flags say that the start time is corrected
abbrev corrected : ℕ → List ℕ
corrected flags = replicate 36 0 ++ (flags ∷ 0 ∷ 0 ∷ 1 ∷ 0xff ∷ 0xff ∷ 0xec ∷ 0x78 ∷ [])

half_a_second : correction false (corrected 0) ≡ negsuc 4999
half_a_second = refl

applied : correction false (corrected 2) ≡ pos 0
applied = refl

-- no samples, no rate
still : rate_of false (replicate 32 0 ++ (0 ∷ 20 ∷ 0 ∷ 1 ∷ [])) ≡ (0, 1)
still = refl

-- its row
abbrev pub anmo_row : Row
anmo_row = record {
  header = anmo_header;
  image = anmo_image;
  entry = 0;
  place = 0;
  moment = record { micros = pos 0 };
  head = anmo_record;
  since_1970 = omega (arith, ints);
  before_2600 = omega (arith, ints);
}

-- what holds of the one element holds of each
alone : {X : Type 0} (P : ℕ → X → Type 0) (x : X) → P 0 x → (i : ℕ) (y : X) → slice_get (x ∷ []) i ≡ Some y → P i y
alone P x here zero y is = let same : x ≡ y = (cc) in subst (P 0) same here
alone P x here (suc i) y is = (cc)

-- it is the one row of its bytes
pub row : AreRecords anmo_image 0 (record { micros = pos 0 }) (anmo_row ∷ [])
row = record { whole = refl; placed = alone (IsPlaced 0 (record { micros = pos 0 })) anmo_row (record { entry_is = refl; moment_is = refl; place_is = refl }) }

-- a record may end at the beginning of 2600, and not a microsecond later
in_time : EndsInTime (pos 19_880_899_199_950_000) 1 twenty_hertz
in_time e = (cc)

late : EndsInTime (pos 19_880_899_199_950_001) 1 twenty_hertz → ⊥
late h = h refl

-- the last sample is the hundredth, number 99 from the start
last_sample : last_index anmo_header ≡ 99
last_sample = refl

next_sample : next_index anmo_header ≡ 100
next_sample = refl

-- six bytes are no record, and behind a whole record they are refused at its end
short : RefusesRecord (codes "000002") Short
short = inl ((λ long. absurd (omega (arith, long))), refl)

pub second : RefusesBatch (anmo_image ++ codes "000002") (Bad 512 Short)
second = record { before = anmo_row ∷ []; split = refl; offset = refl; some = some_left (codes "000002") refl; refused = short }

-- that is the fault of those bytes, and want of memory is no fault of any
pub second_fault : IsBatchFault (anmo_image ++ codes "000002") (Bad 512 Short)
second_fault = second

memory_is_no_fault : (bytes : List ℕ) → IsBatchFault bytes OutOfMemory → ⊥
memory_is_no_fault bytes h = h
