-- Bytes with the same front, as far as a record goes, have the same header.
use Rattle.std.proofs.Common.{◌≡◌, ℕ, suc, ◌+◌, ◌==◌, ◌<◌, ◌≤◌, ◌^◌, Bool, true, false, List, [], ◌∷◌, ◌++◌, length, take, drop, get_or, Option, None, Some, arith, refl, sym, ap, ◌∙◌, subst, pos, ℤ, ◌+ℤ◌, ◌*ℤ◌, length-append}
use Rattle.std.specs.Prelude.{◌||◌, IfSome, if◌then◌else◌}
use Rattle.std.specs.Int.{IsInRange, w16, w32, w8, cast_signed}
use Rattle.std.specs.Option.{option_map, unwrap_or}
use Rattle.std.specs.Prelude.{bit_and, slice_index}
use Rattle.std.proofs.lemmas.Bool.{eqb-true}
use Rattle.std.proofs.lemmas.List.{get_or-take, take-take, drop-take, take-append-le}
use Rattle.std.proofs.Math.Nat.{pow-le-pow_right}
use Rattle.exact_time.specs.BTime.{IsBTime, btime_micros}
use Rattle.exact_time.specs.Rate.{IsFraction, seed_rate}
use Rattle.mseed_header.proofs.Chains.{size_least, the_offsets}
use Rattle.mseed_header.specs.Blockettes.{AreOffsets, IsChain, HasChain, EndWithin, HasExponent, kind_at, end_at, next_at, first_at, next_after, offsets_of, first_of, exponent_at, record_size, told_micros, micros_of}
use Rattle.mseed_header.specs.CodeField.{IsCodeField, IsLocationField}
use Rattle.mseed_header.specs.Fields.{number_at, u16_at, i16_at, i32_at, i8_at, bytes_at, time_at}
use Rattle.mseed_header.specs.Header.{HasHeader, IsRecord, correction, corrected_micros, samples_of, rate_of}
use Rattle.mseed_header.specs.declared.header.Header.{Header}

sized : (bytes : List ℕ) (x : Option ℕ) (n : ℕ) → IfSome x (λ p. IsInRange 7 16 (exponent_at bytes p)) → option_map (λ p. 2 ^ exponent_at bytes p) x ≡ Some n → (128 ≤ n) × (n ≤ 65_536)
sized bytes None n h e = (cc)
sized bytes (Some p) n h e =
    let least : 2 ^ 7 ≤ 2 ^ exponent_at bytes p = pow-le-pow_right {n = 2} (omega arith) {i = 7} {j = exponent_at bytes p} (omega (arith, h)) in
    let most : 2 ^ exponent_at bytes p ≤ 2 ^ 16 = pow-le-pow_right {n = 2} (omega arith) {i = exponent_at bytes p} {j = 16} (omega (arith, h)) in
    let is : 2 ^ exponent_at bytes p ≡ n = (cc) in
    (omega (arith, least, is), omega (arith, most, is))

-- a record has 128 bytes at least and 65,536 at most
pub size_bounds : (bytes : List ℕ) (h : Header) → HasHeader bytes h → (128 ≤ h.length) × (h.length ≤ 65_536)
size_bounds bytes h is = sized bytes _ h.length is.chain.exponent is.size

pub long_record : (little : Bool) (bytes : List ℕ) (n : ℕ) → HasChain little bytes → record_size little bytes (offsets_of little bytes) ≡ Some n → 48 ≤ n
long_record little bytes n chain size = omega (arith, sized bytes _ n chain.exponent size)

if_mapped : {A B : Type 0} (P : B → Type 0) (f : A → B) (x : Option A) → IfSome x (λ a. P (f a)) → IfSome (option_map f x) P
if_mapped P f None h = tt
if_mapped P f (Some a) h = h

mapped_if : {A B : Type 0} (P : B → Type 0) (f : A → B) (x : Option A) → IfSome (option_map f x) P → IfSome x (λ a. P (f a))
mapped_if P f None h = tt
mapped_if P f (Some a) h = h

module _ (xs ys : List ℕ) (n : ℕ) (same : take n xs ≡ take n ys) where
  pub byte_same : (p : ℕ) → p < n → get_or xs p 0 ≡ get_or ys p 0
  byte_same p h = sym (get_or-take n xs p 0 h) ∙ ap (λ (l : List ℕ). get_or l p 0) same ∙ get_or-take n ys p 0 h

  pub u16_same : (little : Bool) (p : ℕ) → p + 2 ≤ n → u16_at little xs p ≡ u16_at little ys p
  u16_same false p h = omega (arith, byte_same p (omega arith), byte_same (suc p) (omega arith))
  u16_same true p h = omega (arith, byte_same p (omega arith), byte_same (suc p) (omega arith))

  i32_same : (little : Bool) (p : ℕ) → p + 4 ≤ n → number_at little xs p 4 ≡ number_at little ys p 4
  i32_same false p h = omega (arith, byte_same p (omega arith), byte_same (suc p) (omega arith), byte_same (suc (suc p)) (omega arith), byte_same (suc (suc (suc p))) (omega arith))
  i32_same true p h = omega (arith, byte_same p (omega arith), byte_same (suc p) (omega arith), byte_same (suc (suc p)) (omega arith), byte_same (suc (suc (suc p))) (omega arith))

  pub field_same : (at size : ℕ) → at + size ≤ n → bytes_at xs at size ≡ bytes_at ys at size
  field_same at size h =
      let whole : take (at + size) xs ≡ take (at + size) ys = sym (take-take (at + size) n xs h) ∙ ap (take (at + size)) same ∙ take-take (at + size) n ys h in
      sym (drop-take at size xs) ∙ ap (drop at) whole ∙ drop-take at size ys

  module _ (little : Bool) where
    pub end_same : (p : ℕ) → p + 4 ≤ n → end_at little xs p ≡ end_at little ys p
    end_same p h = ap (λ (k : ℕ). p + (if k == 1000 || k == 1001 then 8 else 4)) (u16_same little p (omega arith))

    pub offsets_same : (low first : ℕ) (ps : List ℕ) → AreOffsets little xs low first ps → EndWithin little xs n ps → n ≤ length ys → AreOffsets little ys low first ps
    offsets_same low first [] h all whole = tt
    offsets_same low first (p ∷ ps) h all whole =
        let inside : p + 4 ≤ n = omega (arith, size_least little xs p, all.0) in
        let ends = end_same p inside in
        let next = u16_same little (p + 2) (omega arith) in (
          h.0,
          h.1,
          h.2,
          omega (arith, ends, all.0),
          subst (λ (e : ℕ). AreOffsets little ys e (next_at little ys p) ps) ends (subst (λ (q : ℕ). AreOffsets little ys (end_at little xs p) q ps) next (offsets_same (end_at little xs p) (next_at little xs p) ps h.4 all.1 whole)),
        )

    pub next_same : (first : ℕ) (ps : List ℕ) → EndWithin little xs n ps → next_after little xs first ps ≡ next_after little ys first ps
    next_same first [] all = refl
    next_same first (p ∷ ps) all =
        let inside : p + 4 ≤ n = omega (arith, size_least little xs p, all.0) in
        next_same (next_at little xs p) ps all.1 ∙ ap (λ (q : ℕ). next_after little ys q ps) (u16_same little (p + 2) (omega arith))

    within_same : (ps : List ℕ) → EndWithin little xs n ps → EndWithin little ys n ps
    within_same [] all = tt
    within_same (p ∷ ps) all =
        let inside : p + 4 ≤ n = omega (arith, size_least little xs p, all.0) in
        (omega (arith, end_same p inside, all.0), within_same ps all.1)

    mapped_same : {B : Type 0} (f g : ℕ → B) (kind : ℕ) → ((p : ℕ) → kind_at little xs p ≡ kind → end_at little xs p ≤ n → f p ≡ g p) → (ps : List ℕ) → EndWithin little xs n ps
        → option_map f (first_of little xs kind ps) ≡ option_map g (first_of little ys kind ps)
    mapped_same f g kind fits [] all = refl
    mapped_same f g kind fits (p ∷ ps) all =
        let inside : p + 4 ≤ n = omega (arith, size_least little xs p, all.0) in
        let test : kind_at little xs p == kind ≡ kind_at little ys p == kind = ap (λ (k : ℕ). k == kind) (u16_same little p (omega arith)) in
        elim (kind_at little xs p == kind) as (λ b. kind_at little xs p == kind ≡ b → option_map f (first_of little xs kind (p ∷ ps)) ≡ option_map g (first_of little ys kind (p ∷ ps))) [
          | true ↦ λ e. rw (e, sym test ∙ e) (ap Some (fits p (eqb-true (kind_at little xs p) kind e) all.0))
          | false ↦ λ e. rw (e, sym test ∙ e) (mapped_same f g kind fits ps all.1)
        ] refl

    wide_1000 : (p : ℕ) → kind_at little xs p ≡ 1000 → end_at little xs p ≡ p + 8
    wide_1000 p h = rw h refl

    wide_1001 : (p : ℕ) → kind_at little xs p ≡ 1001 → end_at little xs p ≡ p + 8
    wide_1001 p h = rw h refl

    exponents_same : (ps : List ℕ) → EndWithin little xs n ps → option_map (exponent_at xs) (first_of little xs 1000 ps) ≡ option_map (exponent_at ys) (first_of little ys 1000 ps)
    exponents_same ps all = mapped_same (exponent_at xs) (exponent_at ys) 1000 (λ p kind h. byte_same (p + 6) (omega (arith, wide_1000 p kind))) ps all

    pub exponent_same : (ps : List ℕ) → EndWithin little xs n ps → HasExponent little xs ps → HasExponent little ys ps
    exponent_same ps all h =
        mapped_if (IsInRange 7 16) (exponent_at ys) (first_of little ys 1000 ps)
        (subst (λ (x : Option ℕ). IfSome x (IsInRange 7 16)) (exponents_same ps all) (if_mapped (IsInRange 7 16) (exponent_at xs) (first_of little xs 1000 ps) h))

    pub record_same : (ps : List ℕ) → EndWithin little xs n ps → record_size little xs ps ≡ record_size little ys ps
    record_same ps all = mapped_same (λ p. 2 ^ exponent_at xs p) (λ p. 2 ^ exponent_at ys p) 1000 (λ p kind h. ap (λ (e : ℕ). 2 ^ e) (byte_same (p + 6) (omega (arith, wide_1000 p kind)))) ps all

    pub told_same : (ps : List ℕ) → EndWithin little xs n ps → told_micros little xs ps ≡ told_micros little ys ps
    told_same ps all = mapped_same (λ p. i8_at xs (p + 5)) (λ p. i8_at ys (p + 5)) 1001 (λ p kind h. ap (cast_signed w8) (byte_same (p + 5) (omega (arith, wide_1001 p kind)))) ps all

    pub chain_same : (ps : List ℕ) → 48 ≤ n → n ≤ length ys → EndWithin little xs n ps → IsChain little xs ps → IsChain little ys ps
    chain_same ps long whole all h =
        let first = u16_same little 46 (omega arith) in
        record {
          sound = subst (λ (q : ℕ). AreOffsets little ys 48 q ps) first (offsets_same 48 (first_at little xs) ps h.sound all whole);
          ends = ap (λ (q : ℕ). next_after little ys q ps) (sym first) ∙ sym (next_same (first_at little xs) ps all) ∙ h.ends;
        }

    pub time_same : 48 ≤ n → time_at little xs ≡ time_at little ys
    time_same long =
        let year = u16_same little 20 (omega arith) in
        let day = u16_same little 22 (omega arith) in
        let hour = byte_same 24 (omega arith) in
        let minute = byte_same 25 (omega arith) in
        let second = byte_same 26 (omega arith) in
        let fraction = u16_same little 28 (omega arith) in
        λ i. record { year = year i; day = day i; hour = hour i; minute = minute i; second = second i; fraction = fraction i }

    pub correction_same : 48 ≤ n → correction little xs ≡ correction little ys
    correction_same long =
        ap (λ (b : ℕ). if bit_and b 2 == 0 then i32_at little xs 40 else pos 0) (byte_same 36 (omega arith))
        ∙ ap (λ (k : ℕ). if bit_and (slice_index ys 36) 2 == 0 then cast_signed w32 k else pos 0) (i32_same little 40 (omega arith))

    pub rate_same : 48 ≤ n → rate_of little xs ≡ rate_of little ys
    rate_same long =
        ap (λ (k : ℕ). if k == 0 then (0, 1) else seed_rate (i16_at little xs 32) (i16_at little xs 34)) (u16_same little 30 (omega arith))
        ∙ ap (λ (k : ℕ). if samples_of little ys == 0 then (0, 1) else seed_rate (cast_signed w16 k) (i16_at little xs 34)) (u16_same little 32 (omega arith))
        ∙ ap (λ (k : ℕ). if samples_of little ys == 0 then (0, 1) else seed_rate (i16_at little ys 32) (cast_signed w16 k)) (u16_same little 34 (omega arith))

-- bytes with the front of a record have its header
pub header_same : (xs ys : List ℕ) (h : Header) → take h.length xs ≡ take h.length ys → h.length ≤ length ys → HasHeader xs h → HasHeader ys h
header_same xs ys h same whole is =
    let n : ℕ = h.length in
    let size = size_bounds xs h is in
    let long : 48 ≤ h.length = omega (arith, size.0) in
    let little : Bool = h.little in
    let offsets : List ℕ = offsets_of little xs in
    let chain : IsChain little ys offsets = chain_same xs ys h.length same little offsets long whole is.within is.chain.chain in
    let at : offsets_of little ys ≡ offsets = the_offsets little ys offsets chain in
    let time : time_at little xs ≡ time_at little ys = time_same xs ys h.length same little long in
    let told = told_same xs ys h.length same little offsets is.within ∙ ap (told_micros little ys) (sym at) in
    let fields : (at size : ℕ) → at + size ≤ h.length → bytes_at xs at size ≡ bytes_at ys at size = field_same xs ys h.length same in
    record {
      year = subst (λ (y : ℕ). IsInRange 1900 2055 y) (u16_same xs ys h.length same little 20 (omega arith)) is.year;
      time = subst (λ t. IsBTime t) time is.time;
      start = is.start ∙ ap (λ t. btime_micros t +ℤ correction little xs *ℤ pos 100 +ℤ micros_of little xs offsets) time
          ∙ ap (λ (c : ℤ). btime_micros (time_at little ys) +ℤ c *ℤ pos 100 +ℤ micros_of little xs offsets) (correction_same xs ys h.length same little long)
          ∙ ap (λ (x : Option ℤ). corrected_micros little ys +ℤ unwrap_or x (pos 0)) told;
      quality = is.quality ∙ byte_same xs ys h.length same 6 (omega arith);
      name = record {
        station = subst (λ (f : List ℕ). IsCodeField f h.name.station) (fields 8 5 (omega arith)) is.name.station;
        location = subst (λ (f : List ℕ). IsLocationField f h.name.location) (fields 13 2 (omega arith)) is.name.location;
        channel = subst (λ (f : List ℕ). IsCodeField f h.name.channel) (fields 15 3 (omega arith)) is.name.channel;
        network = subst (λ (f : List ℕ). IsCodeField f h.name.network) (fields 18 2 (omega arith)) is.name.network;
      };
      samples = is.samples ∙ u16_same xs ys h.length same little 30 (omega arith);
      rate = subst (λ f. IsFraction h.rate.num h.rate.den f) (rate_same xs ys h.length same little long) is.rate;
      chain = record {
        chain = subst (λ (ps : List ℕ). IsChain little ys ps) (sym at) chain;
        exponent = subst (λ (ps : List ℕ). HasExponent little ys ps) (sym at) (exponent_same xs ys h.length same little offsets is.within is.chain.exponent);
      };
      size = ap (record_size little ys) at ∙ sym (record_same xs ys h.length same little offsets is.within) ∙ is.size;
      within = subst (λ (ps : List ℕ). EndWithin little ys h.length ps) (sym at) (within_same xs ys h.length same little offsets is.within);
      whole = whole;
      reach = is.reach;
    }

-- the two facts of a record
pub record_of : (image : List ℕ) (h : Header) → HasHeader image h → h.length ≡ length image → IsRecord image h
unfolding IsRecord
record_of image h is whole = (is, whole)

pub record_header : (image : List ℕ) (h : Header) → IsRecord image h → HasHeader image h
unfolding IsRecord
record_header image h is = is.0

pub record_whole : (image : List ℕ) (h : Header) → IsRecord image h → h.length ≡ length image
unfolding IsRecord
record_whole image h is = is.1

-- the header of bytes is that of their record
pub record_from : (bytes image : List ℕ) (h : Header) → HasHeader bytes h → image ≡ take h.length bytes → length image ≡ h.length → IsRecord image h
record_from bytes image h is image_is size =
    let same : take h.length bytes ≡ take h.length image = sym (take-take h.length h.length bytes (omega arith)) ∙ ap (take h.length) (sym image_is) in
    record_of image h (header_same bytes image h same (omega (arith, size)) is) (sym size)

-- and of all bytes that begin with it
pub header_in_front : (image rest : List ℕ) (h : Header) → IsRecord image h → HasHeader (image ++ rest) h
header_in_front image rest h is =
    let whole = record_whole image h is in
    let same : take h.length image ≡ take h.length (image ++ rest) = sym (take-append-le h.length image rest (omega (arith, whole))) in
    header_same image (image ++ rest) h same (omega (arith, whole, length-append image rest)) (record_header image h is)
