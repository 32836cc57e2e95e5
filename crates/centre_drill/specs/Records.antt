-- The records that are made, numbered from 0: miniSEED 2 records of 512 bytes (SEED 2.4, fixed section of data header),
-- each of 100 samples at 20 Hz on the channel BHZ, with the blank location, of one of eight stations of the network XX.
use Rattle.std.specs.Prelude.{◌≡◌, ℕ, ◌+◌, ◌*◌, ◌/◌, ◌%◌, pos, List, [], ◌∷◌, ◌++◌, codes, replicate}
use Rattle.std.specs.List.{flat_map, range_with_len}
use Rattle.mseed_header.specs.declared.header.Header.{Header}
use Rattle.mseed_header.specs.declared.quality.Quality.TheVariants.{D}

-- the last decimal digit of a number
abbrev pub digit : ℕ → ℕ
digit n = 48 + n % 10

abbrev pub six_digits : ℕ → List ℕ
six_digits n = digit (n / 100_000) ∷ digit (n / 10_000) ∷ digit (n / 1000) ∷ digit (n / 100) ∷ digit (n / 10) ∷ digit n ∷ []

-- How many seconds after 2024-01-01T00:00:00 a record starts. Each station's records follow one another without a gap, but
-- that after every ten of them a second is missing.
abbrev pub seconds_after : ℕ → ℕ
seconds_after i = 5 * (i / 8) + i / 80

-- the start time so many seconds after 2024 began: the year, the day of the year, hour, minute, second, and no fraction
abbrev pub made_time : ℕ → List ℕ
made_time s = 7 ∷ 0xe8 ∷ 0 ∷ (1 + s / 86_400) ∷ (s / 3600 % 24) ∷ (s / 60 % 60) ∷ (s % 60) ∷ 0 ∷ 0 ∷ 0 ∷ []

-- 100 samples, the factor 20 and the multiplier 1; no flags, one blockette, no correction; data at 64, the blockette at
-- 48: blockette 1000 with the encoding 10, the highest byte first and the length 2^9
abbrev pub behind_time : List ℕ
behind_time =
    0 ∷ 100 ∷ 0 ∷ 20 ∷ 0 ∷ 1 ∷ 0 ∷ 0 ∷ 0 ∷ 1 ∷ 0 ∷ 0 ∷ 0 ∷ 0 ∷ 0 ∷ 64 ∷ 0 ∷ 48
    ∷ 3 ∷ 0xe8 ∷ 0 ∷ 0 ∷ 10 ∷ 1 ∷ 9 ∷ 0 ∷ []

-- the sequence number is i + 1, and the station `S` and the digit i mod 8
abbrev pub made_head : ℕ → List ℕ
made_head i =
    six_digits (i + 1) ++ (codes "D S" ++ digit (i % 8) ∷ (codes "     BHZXX" ++ (made_time (seconds_after i) ++ behind_time)))

-- record i
abbrev pub made_record : ℕ → List ℕ
made_record i = made_head i ++ replicate 456 0

-- so many of them, one after another, from one on
abbrev pub made_body : (from count : ℕ) → List ℕ
made_body from count = flat_map made_record (range_with_len from count)

-- what the header of record i says
pub record IsMadeHeader (i : ℕ) (h : Header) : Type 0 where
  pub network : h.name.network ≡ codes "XX"
  pub station : h.name.station ≡ codes "S" ++ digit (i % 8) ∷ []
  pub location : h.name.location ≡ codes "  "
  pub channel : h.name.channel ≡ codes "BHZ"
  pub quality : h.quality ≡ D
  pub start : h.start.micros ≡ pos (1_704_067_200_000_000 + seconds_after i * 1_000_000)
  pub samples : h.samples ≡ 100
  pub rate : (h.rate.num ≡ 20) × (h.rate.den ≡ 1)
