-- The header of a made record.
use Rattle.std.proofs.Common.{◌≡◌, ℕ, zero, suc, ◌+◌, ◌*◌, ◌/◌, ◌%◌, ◌<◌, false, [], ◌∷◌, pos, ℤ, ◌+ℤ◌, ◌*ℤ◌, refl, subst, codes, arith}
use Rattle.std.specs.Cmp.{int_ranks}
use Rattle.std.specs.Ordering.{MatchOrdering}
use Rattle.std.specs.Prelude.{◌<ℤ◌}
use Rattle.std.specs.declared.cmp.Ordering.{Ordering}
use Rattle.std.proofs.Math.Nat.{one-dvd}
use Rattle.std.proofs.lemmas.Int.{ints}
use Rattle.exact_time.proofs.Examples.{new_year}
use Rattle.exact_time.specs.BTime.{IsBTime}
use Rattle.exact_time.specs.declared.ratio.Ratio.{Ratio}
use Rattle.mseed_header.proofs.Fronts.{record_of}
use Rattle.mseed_header.specs.Blockettes.{HasChain}
use Rattle.mseed_header.specs.CodeField.{IsCodeField}
use Rattle.mseed_header.specs.Fields.{time_at}
use Rattle.mseed_header.specs.Header.{HasHeader, IsRecord, EndsInTime, start_micros}
use Rattle.mseed_header.specs.declared.header.Header.{Header}
use Rattle.mseed_header.specs.declared.quality.Quality.TheVariants.{D}
use Rattle.centre_drill.specs.Records.{digit, seconds_after, made_record}

-- the second after 2024 began
pub seconds_bound : (i : ℕ) → i < 200_000 → seconds_after i < 172_800
seconds_bound i h = omega arith

-- of a second after midnight its hour, minute and second of the day
clock_is : (s : ℕ) → ((s / 86_400 * 24 + s / 3600 % 24) * 60 + s / 60 % 60) * 60 + s % 60 ≡ s
clock_is s = omega arith

abbrev pub twenty_hertz : Ratio
twenty_hertz = record {
  num = 20;
  den = 1;
  num_in = omega arith;
  den_in = omega arith;
  above = omega arith;
  lowest = (one-dvd 20, one-dvd 1, λ d p q. q);
}

-- the station's field, of eight digits
station_field : (d : ℕ) → d < 8 → IsCodeField (83 ∷ digit d ∷ 32 ∷ 32 ∷ 32 ∷ []) (83 ∷ digit d ∷ [])
station_field zero h = record { code_is = refl; letters = refl; some = omega arith }
station_field (suc zero) h = record { code_is = refl; letters = refl; some = omega arith }
station_field (suc (suc zero)) h = record { code_is = refl; letters = refl; some = omega arith }
station_field (suc (suc (suc zero))) h = record { code_is = refl; letters = refl; some = omega arith }
station_field (suc (suc (suc (suc zero)))) h = record { code_is = refl; letters = refl; some = omega arith }
station_field (suc (suc (suc (suc (suc zero))))) h = record { code_is = refl; letters = refl; some = omega arith }
station_field (suc (suc (suc (suc (suc (suc zero)))))) h = record { code_is = refl; letters = refl; some = omega arith }
station_field (suc (suc (suc (suc (suc (suc (suc zero))))))) h = record { code_is = refl; letters = refl; some = omega arith }
station_field (suc (suc (suc (suc (suc (suc (suc (suc d)))))))) h = absurd (omega (arith, h))

module _ (i : ℕ) (below : i < 200_000) where
  abbrev s : ℕ
  s = seconds_after i

  abbrev pub made_header : Header
  made_header = record {
    name = record { network = codes "XX"; station = 83 ∷ digit (i % 8) ∷ []; location = codes "  "; channel = codes "BHZ" };
    quality = D;
    start = record { micros = pos (1_704_067_200_000_000 + s * 1_000_000) };
    samples = 100;
    rate = twenty_hertz;
    length = 512;
    little = false;
  }

  start_is : pos (1_704_067_200_000_000 + s * 1_000_000) ≡ start_micros false (made_record i)
  start_is = rw new_year (omega (arith, ints, clock_is s))

  time : IsBTime (time_at false (made_record i))
  time = record {
    day = (omega (arith, seconds_bound i below), omega (arith, seconds_bound i below));
    hour = omega arith;
    minute = omega arith;
    second = omega arith;
    fraction = omega arith;
  }

  chain : HasChain false (made_record i)
  chain = record {
    chain = record { sound = (refl, omega arith, omega arith, omega arith, tt); ends = refl };
    exponent = (omega arith, omega arith);
  }

  -- the time behind the last sample, and the greatest one, in twentieths of a microsecond
  abbrev finish : ℤ
  finish = pos (1_704_067_200_000_000 + s * 1_000_000) *ℤ pos 20 +ℤ pos 100_000_000

  abbrev limit : ℤ
  limit = pos 19_880_899_200_000_000 *ℤ pos 20

  reach : EndsInTime (pos (1_704_067_200_000_000 + s * 1_000_000)) 100 twenty_hertz
  reach late =
      let above : limit <ℤ finish = subst (λ (o : Ordering). MatchOrdering o (finish <ℤ limit) (finish ≡ limit) (limit <ℤ finish)) late (int_ranks finish limit) in
      omega (arith, ints, above, seconds_bound i below)

  found : HasHeader (made_record i) made_header
  found = record {
    year = (omega arith, omega arith);
    time = time;
    start = start_is;
    quality = refl;
    name = record {
      station = station_field (i % 8) (omega arith);
      location = record { code_is = refl; letters = refl };
      channel = record { code_is = refl; letters = refl; some = omega arith };
      network = record { code_is = refl; letters = refl; some = omega arith };
    };
    samples = refl;
    rate = refl;
    chain = chain;
    size = refl;
    within = (omega arith, tt);
    whole = omega arith;
    reach = reach;
  }

  pub made_is_record : IsRecord (made_record i) made_header
  made_is_record = record_of (made_record i) made_header found refl
