-- Worked examples of the definitions.
use Rattle.std.proofs.Common.{◌≡◌, ℕ, ◌-◌, ◌^◌, true, false, refl, ap, codes, List, [], ◌∷◌, pos, negsuc, None, Some, arith}
use Rattle.std.proofs.Math.Nat.{one-dvd}
use Rattle.std.specs.BTreeMap.{BTreeMap, get}
use Rattle.std.specs.declared.cmp.Ordering.TheVariants.{Less, Greater}
use Rattle.exact_time.specs.declared.ratio.Ratio.{Ratio}
use Rattle.channel_globs.specs.declared.nslc.Nslc.{Nslc}
use Rattle.mseed_header.proofs.Examples.{anmo_header, anmo_row}
use Rattle.channel_globs.specs.Names.{name_cmp}
use Rattle.dataselect.specs.declared.query.Selection.{Selection}
use Rattle.time_index.specs.declared.spot.Spot.{Spot}
use Rattle.time_index.specs.declared.channels.Channel.{Channel}
use Rattle.time_index.specs.Doubles.{has_image_at, is_twin}
use Rattle.time_index.specs.Index.{stands, LastsAtMost, IsChannelIndex}
use Rattle.time_index.specs.Spots.{spot_cmp, spot_at, micros_lasted, has}
use Rattle.time_index.specs.Windows.{first_spot_at, lower_of, upper_of, places_between, places_at, places_in, single_name}
use Rattle.time_index.proofs.Sets.{itself}

-- 100 samples at 20 Hz: the last is 99 periods of 0.05 s after the first
lasted : micros_lasted anmo_header ≡ 4_950_000
lasted = refl

at_most : LastsAtMost anmo_header 4_950_000
at_most = omega arith

abbrev three_hertz : Ratio
three_hertz = record {
  num = 3;
  den = 1;
  num_in = omega arith;
  den_in = omega arith;
  above = omega arith;
  lowest = (one-dvd 3, one-dvd 1, λ d p q. q);
}

-- two samples at 3 Hz: a third of a second, rounded up
rounded : micros_lasted (record anmo_header { samples = 2; rate = three_hertz }) ≡ 333_334
rounded = refl

abbrev spot : ℕ → ℕ → ℕ → Spot
spot micros fingerprint place = record { start = record { micros = pos micros }; fingerprint = fingerprint; place = place }

-- the start decides first, then the fingerprint, then the place
start_first : spot_cmp (spot 5 9 9) (spot 6 0 0) ≡ Less
start_first = refl

fingerprint_first : spot_cmp (spot 5 3 0) (spot 5 2 9) ≡ Greater
fingerprint_first = refl

-- rows that reach microsecond 10, and last 4 microseconds at most, start at 6 or later
lower : lower_of (Some (record { micros = pos 10 })) 4 ≡ Some (first_spot_at (pos 6))
lower = refl

-- no start is as low as this
lowest : lower_of (Some (record { micros = negsuc (2 ^ 63 - 1) })) 1 ≡ None
lowest = refl

upper : upper_of (Some (record { micros = pos 10 })) ≡ Some (first_spot_at (pos 11))
upper = refl

abbrev channel : Channel
channel = record { spots = record { keys = spot 1 0 3 ∷ spot 6 0 2 ∷ spot 10 0 0 ∷ spot 11 0 1 ∷ [] }; longest = 4 }

abbrev ten : Selection
ten = record {
  network = codes "IU" ∷ [];
  station = codes "*" ∷ [];
  location = codes "00" ∷ [];
  channel = codes "BH?" ∷ [];
  start = Some (record { micros = pos 10 });
  end = Some (record { micros = pos 10 });
}

abbrev anmo : Nslc
anmo = record { network = codes "IU"; station = codes "ANMO"; location = codes "00"; channel = codes "BHZ" }

abbrev entries : List (Nslc × Channel)
entries = (anmo, channel) ∷ (record anmo { channel = codes "LHZ" }, channel) ∷ []

-- of the channels that are named, the places from microsecond 6 to microsecond 10
named : places_in ten entries ≡ 2 ∷ 0 ∷ []
unfolding places_at places_between
named = refl

-- four codes without wildcards name one channel, which is looked up
one : single_name (record ten { station = codes "ANMO" ∷ []; channel = codes "BHZ" ∷ [] }) ≡ Some anmo
one = refl

-- a pattern may name several, and so may two codes
several : single_name ten ≡ None
several = refl

two : single_name (record ten { station = codes "ANMO" ∷ codes "AFI" ∷ []; channel = codes "BHZ" ∷ [] }) ≡ None
two = refl

held : has (Some channel) (spot 10 0 0) ≡ true
held = refl

other : has (Some channel) (spot 10 0 1) ≡ false
other = refl

-- the row stands at its own spot, under its own name
own : stands (anmo_row ∷ []) anmo (spot_at 0 anmo_row) ≡ true
own = itself (spot_at 0 anmo_row) (spot_at 0 anmo_row) refl

not_own : stands (anmo_row ∷ []) (record anmo { channel = codes "LHZ" }) (spot_at 0 anmo_row) ≡ false
not_own = refl

-- where there are no channels, there are no rows
none : (channels : BTreeMap Nslc Channel) → ((name : Nslc) → get name_cmp channels name ≡ None) → IsChannelIndex [] channels
none channels without = record { spots = λ name at. ap (λ o. has o at) (without name); longest = λ place row h. absurd (cc) }

-- the row at place 0 has its own bytes; no row of that channel starts at microsecond 5
double : has_image_at (anmo_row ∷ []) anmo_row.image 0 ≡ true
double = refl

no_double : is_twin (anmo_row ∷ []) anmo_row.image (spot 5 0 1) (Some channel) ≡ false
no_double = refl
