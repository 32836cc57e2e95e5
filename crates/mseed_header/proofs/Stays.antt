-- A refusal other than for bytes that are missing stays, whatever bytes come behind.
use Rattle.std.proofs.Common.{◌≡◌, ◌≢◌, inl, inr, ℕ, ◌+◌, ◌<◌, ◌≤◌, Bool, false, List, [], ◌∷◌, ◌++◌, length, take, Option, None, Some, arith, refl, sym, ap, ◌∙◌, subst, pos, ℤ, ◌+ℤ◌, ◌*ℤ◌, length-append}
use Rattle.std.specs.Prelude.{◌&&◌, not, nat_le, IfSome, IsSome, slice_index}
use Rattle.std.specs.Int.{IsInRange}
use Rattle.std.specs.Option.{unwrap_or}
use Rattle.std.proofs.lemmas.Bool.{cases_lt}
use Rattle.std.proofs.lemmas.Bool.Decides.{nat_tests}
use Rattle.std.proofs.lemmas.List.{take-append-le}
use Rattle.exact_time.specs.BTime.{IsBTime, btime_micros}
use Rattle.exact_time.specs.Rate.{IsFraction}
use Rattle.channel_globs.specs.declared.nslc.Nslc.{Nslc}
use Rattle.mseed_header.specs.Blockettes.{AreOffsets, IsChain, HasChain, EndWithin, HasExponent, RefusesAt, RefusesChain, IsPast, kind_at, end_at, reach_at, next_at, first_at, next_after, end_after, offsets_of, exponent_at, record_size, told_micros, micros_of}
use Rattle.mseed_header.specs.CodeField.{IsCodeField, IsLocationField}
use Rattle.mseed_header.specs.Fields.{bytes_at, time_at, u16_at}
use Rattle.mseed_header.specs.Header.{IsName, IsRate, IsYear, EndsInTime, HasName, HoldsBlockettes, IsWhole, IsInTime, RefusesBody, RefusesFields, RefusesRecord, correction, corrected_micros, little_of, samples_of, size_of, start_micros}
use Rattle.mseed_header.specs.declared.header.RecordFault.{RecordFault}
use Rattle.mseed_header.specs.declared.header.RecordFault.TheVariants.{Short, Chain}
use Rattle.mseed_header.proofs.Chains.{IsWalked, size_least, the_offsets, walked_refused}
use Rattle.mseed_header.proofs.Fronts.{byte_same, u16_same, field_same, end_same, offsets_same, next_same, exponent_same, record_same, told_same, chain_same, time_same, correction_same, rate_same}
use Rattle.mseed_header.proofs.Overruns.{overrun}

-- fields that are equal hold the same codes
name_from : (xs ys : List ℕ) (name : Nslc) → ((at size : ℕ) → at + size ≤ 48 → bytes_at xs at size ≡ bytes_at ys at size) → IsName xs name → IsName ys name
name_from xs ys name fields is = record {
  station = subst (λ (f : List ℕ). IsCodeField f name.station) (fields 8 5 (omega arith)) is.station;
  location = subst (λ (f : List ℕ). IsLocationField f name.location) (fields 13 2 (omega arith)) is.location;
  channel = subst (λ (f : List ℕ). IsCodeField f name.channel) (fields 15 3 (omega arith)) is.channel;
  network = subst (λ (f : List ℕ). IsCodeField f name.network) (fields 18 2 (omega arith)) is.network;
}

-- of two options that are equal, facts on their values
if_some : (P Q : ℕ → Type 0) (x y : Option ℕ) → x ≡ y → ((n : ℕ) → P n → Q n) → IfSome x P → IfSome y Q
if_some P Q x y same from h = subst (λ (o : Option ℕ). IfSome o Q) same (here x h)
  where
    here : (o : Option ℕ) → IfSome o P → IfSome o Q
    here None k = tt
    here (Some n) k = from n k

-- `ys` begins with `xs`, which has the fixed section
module _ (xs ys : List ℕ) (same : take (length xs) xs ≡ take (length xs) ys) (longer : length xs ≤ length ys) (long : 48 ≤ length xs) (little : Bool) where
  ends_within : (low first : ℕ) (ps : List ℕ) → AreOffsets little xs low first ps → EndWithin little xs (length xs) ps
  ends_within low first [] h = tt
  ends_within low first (p ∷ ps) h = (h.3, ends_within (end_at little xs p) (next_at little xs p) ps h.4)

  inside : (p : ℕ) → end_at little xs p ≤ length xs → end_at little xs p ≡ end_at little ys p
  inside p h = end_same xs ys (length xs) same little p (omega (arith, size_least little xs p, h))

  ends_same : (low : ℕ) (ps : List ℕ) → EndWithin little xs (length xs) ps → end_after little xs low ps ≡ end_after little ys low ps
  ends_same low [] all = refl
  ends_same low (p ∷ ps) all = ends_same (end_at little xs p) ps all.1 ∙ ap (λ (e : ℕ). end_after little ys e ps) (inside p all.0)

  held_there : (m : ℕ) (ps : List ℕ) → EndWithin little xs (length xs) ps → EndWithin little xs m ps → EndWithin little ys m ps
  held_there m [] all h = tt
  held_there m (p ∷ ps) all h = (omega (arith, inside p all.0, h.0), held_there m ps all.1 h.1)

  held_here : (m : ℕ) (ps : List ℕ) → EndWithin little xs (length xs) ps → EndWithin little ys m ps → EndWithin little xs m ps
  held_here m [] all h = tt
  held_here m (p ∷ ps) all h = (omega (arith, inside p all.0, h.0), held_here m ps all.1 h.1)

  -- ---- the chain

  -- a front of the chain is one of the longer bytes too
  walked_same : (front : List ℕ) → AreOffsets little xs 48 (first_at little xs) front → HasExponent little xs front
      → IsWalked little ys front (next_after little xs (first_at little xs) front) (end_after little xs 48 front) (record_size little xs front) (told_micros little ys front)
  walked_same front sound exponent =
      let all = ends_within 48 (first_at little xs) front sound in
      let first : first_at little xs ≡ first_at little ys = u16_same xs ys (length xs) same little 46 (omega arith) in
      record {
        sound = subst (λ (q : ℕ). AreOffsets little ys 48 q front) first (offsets_same xs ys (length xs) same little 48 (first_at little xs) front sound all longer);
        exponent = exponent_same xs ys (length xs) same little front all exponent;
        at_is = next_same xs ys (length xs) same little (first_at little xs) front all ∙ ap (λ (q : ℕ). next_after little ys q front) first;
        end_is = ends_same 48 front all;
        size_is = record_same xs ys (length xs) same little front all;
        micros_is = refl;
      }

  reach_grows : (p : ℕ) → reach_at little xs p ≤ reach_at little ys p
  reach_grows p =
      let ends : p + 4 ≤ length xs → end_at little xs p ≡ end_at little ys p = end_same xs ys (length xs) same little p in
      let least = size_least little ys p in
      grind (arith, nat_tests)

  reach_same : (p : ℕ) → reach_at little xs p ≤ length xs → reach_at little ys p ≡ reach_at little xs p
  reach_same p h =
      let ends : p + 4 ≤ length xs → end_at little xs p ≡ end_at little ys p = end_same xs ys (length xs) same little p in
      grind (arith, nat_tests)

  -- a blockette past the record's length, where that is known
  past_stays : (front : List ℕ) (at end : ℕ) (known : Option ℕ) (micros : Option ℤ) → IsWalked little ys front at end known micros → 0 < at → ¬ (¬ ((length xs < reach_at little xs at) × IsPast known (reach_at little xs at)))
      → RefusesBody little ys Chain
  past_stays front at end None micros walked some past = absurd (past (λ w. w.1))
  past_stays front at end (Some size) micros walked some past =
      elim (cases_lt size (reach_at little xs at)) [
        | inl over ↦ overrun little ys front at end size micros walked some (omega (arith, over, reach_grows at))
        | inr held ↦ absurd (past (λ w. omega (arith, w.1, held)))
      ]

  -- an exponent that is refused
  exponent_stays : (known : Option ℕ) (at : ℕ) → reach_at little xs at ≤ length xs → ¬ (kind_at little xs at ≡ 1000 → known ≡ None → IsInRange 7 16 (exponent_at xs at))
      → ¬ (kind_at little ys at ≡ 1000 → known ≡ None → IsInRange 7 16 (exponent_at ys at))
  exponent_stays known at whole bad h = bad (λ kind none. back kind (h (sym (kinds) ∙ kind) none))
    where
      least : at + 4 ≤ length xs
      least = let least = size_least little xs at in grind (arith, nat_tests)

      kinds : kind_at little xs at ≡ kind_at little ys at
      kinds = u16_same xs ys (length xs) same little at (omega (arith, least))

      back : kind_at little xs at ≡ 1000 → IsInRange 7 16 (exponent_at ys at) → IsInRange 7 16 (exponent_at xs at)
      back kind is =
          let wide : end_at little xs at ≡ at + 8 = rw kind refl in
          let within : end_at little xs at ≤ length xs = grind (arith, nat_tests) in
          subst (IsInRange 7 16) (sym (byte_same xs ys (length xs) same (at + 6) (omega (arith, wide, within)))) is

  chain_stays : (fault : RecordFault) → fault ≢ Short → RefusesChain little xs fault → RefusesBody little ys fault
  chain_stays fault lasting h =
      let at = next_after little xs (first_at little xs) h.front in
      let walked = walked_same h.front h.sound h.exponent in
      let refused = λ (k : RefusesAt little ys (record_size little xs h.front) (end_after little xs 48 h.front) (next_after little xs (first_at little xs) h.front) fault). walked_refused little ys h.front _ _ _ _ walked h.more fault k in
      elim h.refused [
        | inl low ↦ inl (refused (inl low))
        | inr (_, inl past) ↦ subst (RefusesBody little ys) (sym past.1) (past_stays h.front _ _ _ _ walked h.more past.0)
        | inr (_, inr (_, inl short)) ↦ absurd (lasting short.1)
        | inr (rises, inr (_, inr (whole, inl bad))) ↦
            let reached : reach_at little ys at ≤ length ys = omega (arith, reach_same at whole, whole, longer) in
            inl (refused (inr (rises, inr ((λ w. omega (arith, w.0, reached)), inr (reached, inl (exponent_stays _ at whole bad.0, bad.1))))))
        | inr (_, inr (_, inr (_, inr none))) ↦ absurd none.1
      ]

  -- ---- behind the chain
  module _ (chain : HasChain little xs) where
    all : EndWithin little xs (length xs) (offsets_of little xs)
    all = ends_within 48 (first_at little xs) (offsets_of little xs) chain.chain.sound

    chain_there : IsChain little ys (offsets_of little xs)
    chain_there = chain_same xs ys (length xs) same little (offsets_of little xs) long longer all chain.chain

    offsets : offsets_of little ys ≡ offsets_of little xs
    offsets = the_offsets little ys (offsets_of little xs) chain_there

    has_chain : HasChain little ys
    has_chain = record {
      chain = subst (λ (ps : List ℕ). IsChain little ys ps) (sym offsets) chain_there;
      exponent = subst (λ (ps : List ℕ). HasExponent little ys ps) (sym offsets) (exponent_same xs ys (length xs) same little (offsets_of little xs) all chain.exponent);
    }

    sizes : size_of little xs ≡ size_of little ys
    sizes = record_same xs ys (length xs) same little (offsets_of little xs) all ∙ ap (record_size little ys) (sym offsets)

    holds_there : HoldsBlockettes little xs → HoldsBlockettes little ys
    holds_there h =
        subst (λ (ps : List ℕ). IfSome (size_of little ys) (λ size. EndWithin little ys size ps)) (sym offsets) (if_some _ _ (size_of little xs) (size_of little ys) sizes (λ m. held_there m (offsets_of little xs) all) h)

    holds_here : HoldsBlockettes little ys → HoldsBlockettes little xs
    holds_here h =
        let moved = subst (λ (ps : List ℕ). IfSome (size_of little ys) (λ size. EndWithin little ys size ps)) offsets h in
        if_some _ _ (size_of little ys) (size_of little xs) (sym sizes) (λ m. held_here m (offsets_of little xs) all) moved

    starts : start_micros little xs ≡ start_micros little ys
    starts =
        ap (λ t. btime_micros t +ℤ correction little xs *ℤ pos 100 +ℤ micros_of little xs (offsets_of little xs)) (time_same xs ys (length xs) same little long)
        ∙ ap (λ (c : ℤ). btime_micros (time_at little ys) +ℤ c *ℤ pos 100 +ℤ micros_of little xs (offsets_of little xs)) (correction_same xs ys (length xs) same little long)
        ∙ ap (λ (x : Option ℤ). corrected_micros little ys +ℤ unwrap_or x (pos 0)) (told_same xs ys (length xs) same little (offsets_of little xs) all ∙ ap (told_micros little ys) (sym offsets))

    in_time_here : IsInTime little ys → IsInTime little xs
    in_time_here h = λ rate is.
        let is_there : IsRate little ys rate = subst (λ f. IsFraction rate.num rate.den f) (rate_same xs ys (length xs) same little long) is in
        subst (λ (m : ℤ). EndsInTime m (samples_of little xs) rate) (sym starts)
        (subst (λ (k : ℕ). EndsInTime (start_micros little ys) k rate) (sym (u16_same xs ys (length xs) same little 30 (omega arith))) (h rate is_there))

    whole_there : IsWhole little xs → IsWhole little ys
    whole_there h = if_some _ _ (size_of little xs) (size_of little ys) sizes (λ m k. omega (arith, k, longer)) h

  body_stays : (fault : RecordFault) → fault ≢ Short → RefusesBody little xs fault → RefusesBody little ys fault
  body_stays fault lasting (inl h) = chain_stays fault lasting h
  body_stays fault lasting (inr (chain, inl h)) = inr (has_chain chain, inl ((λ some. h.0 (subst IsSome (sym (sizes chain)) some)), h.1))
  body_stays fault lasting (inr (chain, inr (some, inl h))) = inr (has_chain chain, inr (subst IsSome (sizes chain) some, inl ((λ held. h.0 (holds_here chain held)), h.1)))
  body_stays fault lasting (inr (chain, inr (some, inr (held, inl h)))) = absurd (lasting h.1)
  body_stays fault lasting (inr (chain, inr (some, inr (held, inr (whole, inl h))))) =
      inr (has_chain chain, inr (subst IsSome (sizes chain) some, inr (holds_there chain held, inr (whole_there chain whole, inl ((λ early. h.0 (in_time_here chain early)), h.1)))))
  body_stays fault lasting (inr (chain, inr (some, inr (held, inr (whole, inr h))))) = absurd h.1

  -- ---- the fields
  times : time_at little xs ≡ time_at little ys
  times = time_same xs ys (length xs) same little long

  fields : (at size : ℕ) → at + size ≤ 48 → bytes_at xs at size ≡ bytes_at ys at size
  fields at size h = field_same xs ys (length xs) same at size (omega (arith, h, long))

  name_there : HasName xs → HasName ys
  name_there h = (h.0, name_from xs ys h.0 fields h.1)

  name_here : HasName ys → HasName xs
  name_here h = (h.0, name_from ys xs h.0 (λ at size k. sym (fields at size k)) h.1)

  letters : slice_index xs 6 ≡ slice_index ys 6
  letters = byte_same xs ys (length xs) same 6 (omega arith)

  fields_stay : (fault : RecordFault) → fault ≢ Short → RefusesFields little xs fault → RefusesFields little ys fault
  fields_stay fault lasting (inl h) = inl ((λ time. h.0 (subst (λ t. IsBTime t) (sym times) time)), h.1)
  fields_stay fault lasting (inr (time, inl h)) = inr (subst (λ t. IsBTime t) times time, inl ((λ q. h.0 (q.0, q.1 ∙ sym letters)), h.1))
  fields_stay fault lasting (inr (time, inr (q, inl h))) = inr (subst (λ t. IsBTime t) times time, inr ((q.0, q.1 ∙ letters), inl ((λ name. h.0 (name_here name)), h.1)))
  fields_stay fault lasting (inr (time, inr (q, inr (name, h)))) = inr (subst (λ t. IsBTime t) times time, inr ((q.0, q.1 ∙ letters), inr (name_there name, body_stays fault lasting h)))

-- ---- the whole
orders : (xs ys : List ℕ) → take (length xs) xs ≡ take (length xs) ys → 48 ≤ length xs → little_of xs ≡ little_of ys
orders xs ys same long = ap (λ (k : ℕ). not (nat_le 1900 k && nat_le k 2055)) (u16_same xs ys (length xs) same false 20 (omega arith))

years : (xs ys : List ℕ) (little : Bool) → take (length xs) xs ≡ take (length xs) ys → 48 ≤ length xs → u16_at little xs 20 ≡ u16_at little ys 20
years xs ys little same long = u16_same xs ys (length xs) same little 20 (omega arith)

-- a refusal of bytes is one of all that begin with them
record_stays : (xs ys : List ℕ) → take (length xs) xs ≡ take (length xs) ys → length xs ≤ length ys → (fault : RecordFault) → fault ≢ Short → RefusesRecord xs fault → RefusesRecord ys fault
record_stays xs ys same longer fault lasting (inl h) = absurd (lasting h.1)
record_stays xs ys same longer fault lasting (inr (long, inl h)) =
    let order = orders xs ys same long in
    inr (omega (arith, long, longer), inl ((λ year. h.0 (subst (IsInRange 1900 2055) (sym (years xs ys (little_of xs) same long)) (subst (λ (b : Bool). IsYear b ys) (sym order) year))), h.1))
record_stays xs ys same longer fault lasting (inr (long, inr (year, h))) =
    let order = orders xs ys same long in
    let later = fields_stay xs ys same longer long (little_of xs) fault lasting h in
    inr (omega (arith, long, longer), inr (subst (λ (b : Bool). IsYear b ys) order (subst (IsInRange 1900 2055) (years xs ys (little_of xs) same long) year), subst (λ (b : Bool). RefusesFields b ys fault) order later))

pub refusal_stays : (bytes more : List ℕ) (fault : RecordFault) → fault ≢ Short → RefusesRecord bytes fault → RefusesRecord (bytes ++ more) fault
refusal_stays bytes more fault lasting h =
    record_stays bytes (bytes ++ more) (sym (take-append-le (length bytes) bytes more (omega arith))) (omega (arith, length-append bytes more)) fault lasting h
