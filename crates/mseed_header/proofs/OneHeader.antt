-- Bytes begin with one record, or have one fault.
use Rattle.std.proofs.Common.{◌≡◌, ◌⊎◌, inl, inr, ℕ, zero, suc, ◌*◌, ◌/◌, ◌%◌, ◌<◌, ◌≤◌, ◌==◌, ◌||◌, ◌∙◌, ℤ, pos, negsuc, Bool, true, false, List, [], ◌∷◌, length, Option, None, Some, arith, refl, sym, subst}
use Rattle.std.specs.Prelude.{slice_index, if◌then◌else◌}
use Rattle.std.specs.Int.{IsGcd, w16}
use Rattle.std.specs.Int.RustNames.{FitsSigned}
use mir.Facts.{sfits_to_z}
use Rattle.std.specs.List.{list_all}
use Rattle.std.specs.Char.{is_ascii_alphanumeric}
use Rattle.std.specs.declared.cmp.Ordering.{Ordering}
use Rattle.std.specs.declared.cmp.Ordering.TheVariants.{Less, Equal, Greater}
use Rattle.std.proofs.Math.Nat.{div-le_self, mod-lt, mul-le-mul_left, mul-le-mul_right, le_trans, mul-pos}
use Rattle.std.proofs.lemmas.Bool.{cases_Bool}
use Rattle.std.proofs.lemmas.Int.{ints}
use Rattle.std.proofs.lemmas.Nat.Gcd.{IsGcd-from_zero, IsGcd-from_mod}
use Rattle.exact_time.proofs.Lowest.{lowest_from_gcd, fraction_from_gcd, above_from_gcd}
use Rattle.exact_time.specs.BTime.{IsBTime}
use Rattle.exact_time.specs.Rate.{IsFraction, seed_rate}
use Rattle.exact_time.specs.SampleTime.{compare_sample}
use Rattle.exact_time.specs.declared.fields.BTime.{BTime}
use Rattle.exact_time.specs.declared.ratio.Ratio.{Ratio}
use Rattle.jiff_core.specs.Calendar.{days_in_year}
use Rattle.channel_globs.specs.PatternText.{is_blank_word}
use Rattle.channel_globs.specs.declared.nslc.Nslc.{Nslc}
use Rattle.mseed_header.specs.Blockettes.{HasChain, EndWithin, end_at, offsets_of, record_size}
use Rattle.mseed_header.specs.CodeField.{IsCodeField, IsLocationField, without_fill, location_of}
use Rattle.mseed_header.specs.Fields.{time_at, bytes_at, u16_at, i16_at, number_at}
use Rattle.mseed_header.specs.Header.{HasHeader, HasName, HasQuality, IsName, IsRate, IsYear, RefusesRecord, RefusesBody, EndsInTime, little_of, start_micros, samples_of}
use Rattle.mseed_header.specs.Quality.{quality_letter}
use Rattle.mseed_header.specs.declared.header.Header.{Header}
use Rattle.mseed_header.specs.declared.header.RecordFault.{RecordFault}
use Rattle.mseed_header.specs.declared.header.RecordFault.TheVariants.{Short, Year, Time, Quality, Code, Chain, NoBlockette1000, Reach}
use Rattle.mseed_header.specs.declared.quality.Quality as letter
use Rattle.mseed_header.specs.declared.quality.Quality.TheVariants.{D, M, Q, R}
use Rattle.mseed_header.proofs.Headers.{refused_fields, refused_body, refused_reach}
use Rattle.mseed_header.specs.Octets.{AreOctets}
use Rattle.mseed_header.proofs.OneChain.{Decided, le_or_not, in_range_or_not, same_or_not, chain_or_fault}

abbrev pub Answer : List ℕ → Type 0
Answer bytes = ((h : Header) × HasHeader bytes h) ⊎ ((f : RecordFault) × RefusesRecord bytes f)

-- ---- the rate

gcd_of : (fuel a b : ℕ) → b ≤ fuel → (g : ℕ) × IsGcd a b g
gcd_of fuel a zero room = (a, IsGcd-from_zero a 0 refl)
gcd_of zero a (suc b) room = absurd (omega (arith, room))
gcd_of (suc fuel) a (suc b) room =
    let above : 0 < suc b = omega arith in
    let less : a % suc b < suc b = mod-lt a above in
    let g = gcd_of fuel (suc b) (a % suc b) (omega (arith, less, room)) in
    (g.0, IsGcd-from_mod a (suc b) g.0 g.1)

ratio_of : (a b : ℕ) → a ≤ 1_073_741_824 → b ≤ 1_073_741_824 → 0 < b → (r : Ratio) × IsFraction r.num r.den (a, b)
ratio_of a b a_in b_in above =
    let g = gcd_of b a b (omega arith) in
    let num = div-le_self a g.0 in
    let den = div-le_self b g.0 in (
      record {
        num = a / g.0;
        den = b / g.0;
        num_in = omega (arith, num, a_in);
        den_in = omega (arith, den, b_in);
        above = above_from_gcd a b g.0 above g.1;
        lowest = lowest_from_gcd a b g.0 above g.1;
      },
      fraction_from_gcd a b g.0 g.1,
    )

-- at most 32,768 on either side of 0
abbrev IsShort : ℤ → Type 0
IsShort (pos n) = n ≤ 32_768
IsShort (negsuc n) = n < 32_768

product : (m n : ℕ) → m ≤ 32_768 → n ≤ 32_768 → m * n ≤ 1_073_741_824
product m n h k = le_trans (mul-le-mul_left m k) (mul-le-mul_right 32_768 h)

some_product : (m n : ℕ) → 0 < m → 0 < n → 0 < m * n
some_product m n h k = mul-pos h k

seed_ratio : (f m : ℤ) → IsShort f → IsShort m → (r : Ratio) × IsFraction r.num r.den (seed_rate f m)
seed_ratio (pos f) (pos m) h k = ratio_of (f * m) 1 (product f m h k) (omega arith) (omega arith)
seed_ratio (pos f) (negsuc m) h k = ratio_of f (suc m) (omega (arith, h)) (omega (arith, k)) (omega arith)
seed_ratio (negsuc f) (pos m) h k = ratio_of m (suc f) (omega (arith, k)) (omega (arith, h)) (omega arith)
seed_ratio (negsuc f) (negsuc m) h k = ratio_of 1 (suc f * suc m) (omega arith) (product (suc f) (suc m) (omega (arith, h)) (omega (arith, k))) (some_product (suc f) (suc m) (omega arith) (omega arith))

number_small : (little : Bool) (bytes : List ℕ) (at : ℕ) → AreOctets bytes → number_at little bytes at 2 < 65_536
number_small true bytes at octets = omega (arith, octets at, octets (suc at))
number_small false bytes at octets = omega (arith, octets at, octets (suc at))

short_of : (z : ℤ) → FitsSigned w16 z → IsShort z
short_of (pos n) h = omega (arith, ints, h)
short_of (negsuc n) h = omega (arith, ints, h)

i16_short : (little : Bool) (bytes : List ℕ) (at : ℕ) → AreOctets bytes → IsShort (i16_at little bytes at)
i16_short little bytes at octets =
    let small = number_small little bytes at octets in
    short_of (i16_at little bytes at) (sfits_to_z {w = w16} (record { fits = small }))

rate_by : (little : Bool) (bytes : List ℕ) (still : Bool) → AreOctets bytes → (r : Ratio) × IsFraction r.num r.den (if still then (0, 1) else seed_rate (i16_at little bytes 32) (i16_at little bytes 34))
rate_by little bytes true octets = ratio_of 0 1 (omega arith) (omega arith) (omega arith)
rate_by little bytes false octets = seed_ratio (i16_at little bytes 32) (i16_at little bytes 34) (i16_short little bytes 32 octets) (i16_short little bytes 34 octets)

has_rate : (little : Bool) (bytes : List ℕ) → AreOctets bytes → (r : Ratio) × IsRate little bytes r
has_rate little bytes octets = rate_by little bytes (samples_of little bytes == 0) octets

ends_or_not : (start : ℤ) (samples : ℕ) (rate : Ratio) → Decided (EndsInTime start samples rate)
ends_or_not start samples rate =
    elim (compare_sample start samples rate (pos 19_880_899_200_000_000)) as (λ (o : Ordering). (o ≡ Greater → ⊥) ⊎ ((o ≡ Greater → ⊥) → ⊥)) [
      | Less ↦ inl (λ e. cc)
      | Equal ↦ inl (λ e. cc)
      | Greater ↦ inr (λ n. n refl)
    ]

-- ---- the time, the quality, the codes

time_or_not : (b : BTime) → Decided (IsBTime b)
time_or_not b =
    elim (in_range_or_not 1 (days_in_year (pos b.year)) b.day) [
      | inr no_day ↦ inr (λ h. no_day h.day)
      | inl day ↦
          elim (le_or_not b.hour 23) [
            | inr no_hour ↦ inr (λ h. no_hour h.hour)
            | inl hour ↦
                elim (le_or_not b.minute 59) [
                  | inr no_minute ↦ inr (λ h. no_minute h.minute)
                  | inl minute ↦
                      elim (le_or_not b.second 60) [
                        | inr no_second ↦ inr (λ h. no_second h.second)
                        | inl second ↦
                            elim (le_or_not b.fraction 9999) [
                              | inr no_fraction ↦ inr (λ h. no_fraction h.fraction)
                              | inl fraction ↦ inl (record { day = day; hour = hour; minute = minute; second = second; fraction = fraction })
                            ]
                      ]
                ]
          ]
    ]

quality_or_not : (bytes : List ℕ) → Decided (HasQuality bytes)
quality_or_not bytes =
    elim (same_or_not 68 (slice_index bytes 6)) [
      | inl d ↦ inl (D, d)
      | inr no_d ↦
          elim (same_or_not 77 (slice_index bytes 6)) [
            | inl m ↦ inl (M, m)
            | inr no_m ↦
                elim (same_or_not 81 (slice_index bytes 6)) [
                  | inl q ↦ inl (Q, q)
                  | inr no_q ↦
                      elim (same_or_not 82 (slice_index bytes 6)) [
                        | inl r ↦ inl (R, r)
                        | inr no_r ↦ inr (λ h. none h.0 h.1 no_d no_m no_q no_r)
                      ]
                ]
          ]
    ]
  where
    none : (q : letter.Quality) → quality_letter q ≡ slice_index bytes 6 → (68 ≡ slice_index bytes 6 → ⊥) → (77 ≡ slice_index bytes 6 → ⊥) → (81 ≡ slice_index bytes 6 → ⊥) → (82 ≡ slice_index bytes 6 → ⊥) → ⊥
    none D e no_d no_m no_q no_r = no_d e
    none M e no_d no_m no_q no_r = no_m e
    none Q e no_d no_m no_q no_r = no_q e
    none R e no_d no_m no_q no_r = no_r e

-- the one code that a field can hold, if it holds it
code_or_not : (field : List ℕ) → Decided (IsCodeField field (without_fill field))
code_or_not field =
    elim (cases_Bool (list_all is_ascii_alphanumeric (without_fill field))) [
      | inr bad ↦ inr (λ h. (let e = sym bad ∙ h.letters in (cc)))
      | inl letters ↦
          elim (le_or_not 1 (length (without_fill field))) [
            | inl some ↦ inl (record { code_is = refl; letters = letters; some = some })
            | inr none ↦ inr (λ h. none h.some)
          ]
    ]

location_or_not : (field : List ℕ) → Decided (IsLocationField field (location_of (without_fill field)))
location_or_not field =
    elim (cases_Bool (is_blank_word (without_fill field) || list_all is_ascii_alphanumeric (without_fill field))) [
      | inr bad ↦ inr (λ h. (let e = sym bad ∙ h.letters in (cc)))
      | inl letters ↦ inl (record { code_is = refl; letters = letters })
    ]

code_is : (field code : List ℕ) → IsCodeField field code → IsCodeField field (without_fill field)
code_is field code h = subst (IsCodeField field) h.code_is h

location_is : (field code : List ℕ) → IsLocationField field code → IsLocationField field (location_of (without_fill field))
location_is field code h = subst (IsLocationField field) h.code_is h

name_or_not : (bytes : List ℕ) → Decided (HasName bytes)
name_or_not bytes =
    elim (code_or_not (bytes_at bytes 8 5)) [
      | inr no_station ↦ inr (λ h. no_station (code_is _ _ h.1.station))
      | inl station ↦
          elim (location_or_not (bytes_at bytes 13 2)) [
            | inr no_location ↦ inr (λ h. no_location (location_is _ _ h.1.location))
            | inl location ↦
                elim (code_or_not (bytes_at bytes 15 3)) [
                  | inr no_channel ↦ inr (λ h. no_channel (code_is _ _ h.1.channel))
                  | inl channel ↦
                      elim (code_or_not (bytes_at bytes 18 2)) [
                        | inr no_network ↦ inr (λ h. no_network (code_is _ _ h.1.network))
                        | inl network ↦
                            inl (
                              record { network = without_fill (bytes_at bytes 18 2); station = without_fill (bytes_at bytes 8 5); location = location_of (without_fill (bytes_at bytes 13 2)); channel = without_fill (bytes_at bytes 15 3) },
                              record { station = station; location = location; channel = channel; network = network },
                            )
                      ]
                ]
          ]
    ]

within_or_not : (little : Bool) (bytes : List ℕ) (size : ℕ) (offsets : List ℕ) → Decided (EndWithin little bytes size offsets)
within_or_not little bytes size [] = inl tt
within_or_not little bytes size (p ∷ ps) =
    elim (le_or_not (end_at little bytes p) size) [
      | inr past ↦ inr (λ h. past h.0)
      | inl here ↦
          elim (within_or_not little bytes size ps) [
            | inl more ↦ inl (here, more)
            | inr past ↦ inr (λ h. past h.1)
          ]
    ]

-- ---- the steps, from the last

abbrev size_of : List ℕ → ℕ
size_of bytes = length bytes

-- what a record has behind its codes
record HasBody (little : Bool) (bytes : List ℕ) : Type 0 where
  chain : HasChain little bytes
  length : ℕ
  size : record_size little bytes (offsets_of little bytes) ≡ Some length
  within : EndWithin little bytes length (offsets_of little bytes)
  whole : length ≤ size_of bytes
  rate : Ratio
  is_rate : IsRate little bytes rate
  reach : EndsInTime (start_micros little bytes) (samples_of little bytes) rate

module _ (little : Bool) (bytes : List ℕ) (octets : AreOctets bytes) where
  abbrev Body : Type 0
  Body = HasBody little bytes ⊎ ((f : RecordFault) × RefusesBody little bytes f)

  reach_or_fault : HasChain little bytes → (size : ℕ) → record_size little bytes (offsets_of little bytes) ≡ Some size → EndWithin little bytes size (offsets_of little bytes) → size ≤ length bytes → Body
  reach_or_fault chain size is within whole =
      let rate = has_rate little bytes octets in
      elim (ends_or_not (start_micros little bytes) (samples_of little bytes) rate.0) [
        | inl reach ↦ inl (record { chain = chain; length = size; size = is; within = within; whole = whole; rate = rate.0; is_rate = rate.1; reach = reach })
        | inr late ↦ inr (Reach, refused_reach little bytes size rate.0 chain is within whole rate.1 late)
      ]

  size_or_fault : HasChain little bytes → (size : Option ℕ) → record_size little bytes (offsets_of little bytes) ≡ size → Body
  size_or_fault chain None is = inr (NoBlockette1000, inr (chain, inl (rw is (λ h. cc), refl)))
  size_or_fault chain (Some size) is =
      elim (within_or_not little bytes size (offsets_of little bytes)) [
        | inr past ↦ inr (Chain, inr (chain, inr (rw is refl, inl (rw is past, refl))))
        | inl within ↦
            elim (le_or_not size (length bytes)) [
              | inr cut ↦ inr (Short, inr (chain, inr (rw is refl, inr (rw is within, inl (rw is cut, refl)))))
              | inl whole ↦ reach_or_fault chain size is within whole
            ]
      ]

  body_or_fault : 48 ≤ length bytes → Body
  body_or_fault long =
      elim (chain_or_fault little bytes long) [
        | inr refused ↦ inr (refused.0, inl refused.1)
        | inl chain ↦ size_or_fault chain (record_size little bytes (offsets_of little bytes)) refl
      ]

header_by : (little : Bool) (bytes : List ℕ) → AreOctets bytes → 48 ≤ length bytes → little ≡ little_of bytes → IsYear little bytes → Answer bytes
header_by little bytes octets long order year =
    elim (time_or_not (time_at little bytes)) [
      | inr no_time ↦ inr (Time, refused_fields little bytes Time long order year (inl (no_time, refl)))
      | inl time ↦
          elim (quality_or_not bytes) [
            | inr no_quality ↦ inr (Quality, refused_fields little bytes Quality long order year (inr (time, inl (no_quality, refl))))
            | inl quality ↦
                elim (name_or_not bytes) [
                  | inr no_name ↦ inr (Code, refused_fields little bytes Code long order year (inr (time, inr (quality, inl (no_name, refl)))))
                  | inl name ↦
                      elim (body_or_fault little bytes octets long) [
                        | inr refused ↦ inr (refused.0, refused_fields little bytes refused.0 long order year (refused_body little bytes refused.0 quality.0 name.0 time quality.1 name.1 refused.1))
                        | inl body ↦ inl (header_with little bytes quality.0 name.0 body, is_header little bytes year time quality.0 quality.1 name.0 name.1 body)
                      ]
                ]
          ]
    ]
  where
    header_with : (little : Bool) (bytes : List ℕ) → letter.Quality → Nslc → HasBody little bytes → Header
    header_with little bytes quality name body = record {
      name = name;
      quality = quality;
      start = record { micros = start_micros little bytes };
      samples = samples_of little bytes;
      rate = body.rate;
      length = body.length;
      little = little;
    }

    is_header : (little : Bool) (bytes : List ℕ) → IsYear little bytes → IsBTime (time_at little bytes) → (q : letter.Quality) → quality_letter q ≡ slice_index bytes 6 → (name : Nslc) → IsName bytes name → (body : HasBody little bytes)
        → HasHeader bytes (header_with little bytes q name body)
    is_header little bytes year time q quality name is body = record {
      year = year;
      time = time;
      start = refl;
      quality = quality;
      name = is;
      samples = refl;
      rate = body.is_rate;
      chain = body.chain;
      size = body.size;
      within = body.within;
      whole = body.whole;
      reach = body.reach;
    }

pub header_or_refused : (bytes : List ℕ) → AreOctets bytes → Answer bytes
header_or_refused bytes octets =
    elim (le_or_not 48 (length bytes)) [
      | inr short ↦ inr (Short, inl (short, refl))
      | inl long ↦
          elim (in_range_or_not 1900 2055 (u16_at (little_of bytes) bytes 20)) [
            | inr no_year ↦ inr (Year, inr (long, inl (no_year, refl)))
            | inl year ↦ header_by (little_of bytes) bytes octets long refl year
          ]
    ]
