-- Chains of blockettes: fronts of a chain, and that bytes have one chain at most.
use Rattle.std.proofs.Common.{◌≡◌, ◌⊎◌, inl, inr, ℕ, zero, suc, ◌+◌, ◌==◌, ◌<◌, ◌≤◌, ◌^◌, ℤ, pos, Bool, true, false, List, [], ◌∷◌, ◌++◌, length, Option, None, Some, arith, refl, sym, ap, ◌∙◌, subst, append-nil}
use Rattle.std.specs.Prelude.{IfSome}
use Rattle.std.specs.Int.{IsInRange}
use Rattle.std.specs.Option.{option_or, option_map, unwrap_or}
use Rattle.std.proofs.lemmas.List.Folds.{find-append}
use Rattle.std.proofs.lemmas.Bool.{eqb-true}
use Rattle.std.proofs.lemmas.Bool.Decides.{nat_tests}
use Rattle.mseed_header.specs.Blockettes.{AreOffsets, IsChain, HasChain, RefusesAt, RefusesChain, EndWithin, HasExponent, kind_at, end_at, reach_at, next_at, first_at, next_after, end_after, named_from, offsets_of, first_of, exponent_at, record_size, told_micros, micros_of}
use Rattle.mseed_header.specs.declared.header.RecordFault.{RecordFault}
use Rattle.mseed_header.specs.declared.header.RecordFault.TheVariants.{Short, Chain, Length}
use Rattle.mseed_header.proofs.Steps.{IsOne, IsNone, one_unless, one_of_none}

-- how far a walk along the chain has come
pub record IsWalked (little : Bool) (bytes front : List ℕ) (at end : ℕ) (size : Option ℕ) (micros : Option ℤ) : Type 0 where
  pub sound : AreOffsets little bytes 48 (first_at little bytes) front
  pub exponent : HasExponent little bytes front
  pub at_is : at ≡ next_after little bytes (first_at little bytes) front
  pub end_is : end ≡ end_after little bytes 48 front
  pub size_is : size ≡ record_size little bytes front
  pub micros_is : micros ≡ told_micros little bytes front

option_map-or : {A B : Type 0} (f : A → B) (x y : Option A) → option_map f (option_or x y) ≡ option_or (option_map f x) (option_map f y)
option_map-or f None y = refl
option_map-or f (Some x) y = refl

module _ (little : Bool) (bytes : List ℕ) where
  pub size_least : (p : ℕ) → p + 4 ≤ end_at little bytes p
  size_least p = grind (arith, nat_tests)

  -- what reaches no further than the bytes is whole
  pub reach_is : (p : ℕ) → end_at little bytes p ≤ length bytes → reach_at little bytes p ≡ end_at little bytes p
  reach_is p h = let least = size_least p in grind (arith, nat_tests)

  -- one offset more
  offsets_more : (low first : ℕ) (front : List ℕ) (at : ℕ) → AreOffsets little bytes low first front → at ≡ next_after little bytes first front → 0 < at → end_after little bytes low front ≤ at
      → end_at little bytes at ≤ length bytes → AreOffsets little bytes low first (front ++ at ∷ [])
  offsets_more low first [] at h is some rises whole = (is, some, rises, whole, tt)
  offsets_more low first (p ∷ ps) at h is some rises whole =
      (h.0, h.1, h.2, h.3, offsets_more (end_at little bytes p) (next_at little bytes p) ps at h.4 is some rises whole)

  next_more : (first : ℕ) (front : List ℕ) (at : ℕ) → next_after little bytes first (front ++ at ∷ []) ≡ next_at little bytes at
  next_more first [] at = refl
  next_more first (p ∷ ps) at = next_more (next_at little bytes p) ps at

  end_more : (low : ℕ) (front : List ℕ) (at : ℕ) → end_after little bytes low (front ++ at ∷ []) ≡ end_at little bytes at
  end_more low [] at = refl
  end_more low (p ∷ ps) at = end_more (end_at little bytes p) ps at

  first_more : (kind : ℕ) (front : List ℕ) (at : ℕ) → first_of little bytes kind (front ++ at ∷ []) ≡ option_or (first_of little bytes kind front) (first_of little bytes kind (at ∷ []))
  first_more kind front at = find-append (λ p. kind_at little bytes p == kind) front (at ∷ [])

  mapped_more : {B : Type 0} (f : ℕ → B) (kind : ℕ) (front : List ℕ) (at : ℕ)
      → option_map f (first_of little bytes kind (front ++ at ∷ [])) ≡ option_or (option_map f (first_of little bytes kind front)) (option_map f (first_of little bytes kind (at ∷ [])))
  mapped_more f kind front at = ap (option_map f) (first_more kind front at) ∙ option_map-or f (first_of little bytes kind front) (first_of little bytes kind (at ∷ []))

  exponent_found : (x : Option ℕ) (at : ℕ) (here : Bool) → kind_at little bytes at == 1000 ≡ here → IfSome x (λ p. IsInRange 7 16 (exponent_at bytes p))
      → (kind_at little bytes at ≡ 1000 → option_map (λ p. 2 ^ exponent_at bytes p) x ≡ None → IsInRange 7 16 (exponent_at bytes at))
      → IfSome (option_or x (first_of little bytes 1000 (at ∷ []))) (λ p. IsInRange 7 16 (exponent_at bytes p))
  exponent_found (Some x) at here is h new = h
  exponent_found None at true is h new = rw is (new (eqb-true (kind_at little bytes at) 1000 is) refl)
  exponent_found None at false is h new = rw is tt

  exponent_more : (front : List ℕ) (at : ℕ) → HasExponent little bytes front → (kind_at little bytes at ≡ 1000 → record_size little bytes front ≡ None → IsInRange 7 16 (exponent_at bytes at))
      → HasExponent little bytes (front ++ at ∷ [])
  exponent_more front at h new =
      subst (λ (x : Option ℕ). IfSome x (λ p. IsInRange 7 16 (exponent_at bytes p))) (sym (first_more 1000 front at))
      (exponent_found (first_of little bytes 1000 front) at (kind_at little bytes at == 1000) refl h new)

  -- a step of the walk
  pub walked_more : (front : List ℕ) (at end : ℕ) (size : Option ℕ) (micros : Option ℤ) (at' end' : ℕ) (size' : Option ℕ) (micros' : Option ℤ) → IsWalked little bytes front at end size micros
      → 0 < at → end ≤ at → end_at little bytes at ≤ length bytes → (kind_at little bytes at ≡ 1000 → size ≡ None → IsInRange 7 16 (exponent_at bytes at))
      → at' ≡ next_at little bytes at → end' ≡ end_at little bytes at → size' ≡ option_or size (record_size little bytes (at ∷ [])) → micros' ≡ option_or micros (told_micros little bytes (at ∷ []))
      → IsWalked little bytes (front ++ at ∷ []) at' end' size' micros'
  walked_more front at end size micros at' end' size' micros' h some rises whole new at_is end_is size_is micros_is = record {
    sound = offsets_more 48 _ front at h.sound h.at_is some (subst (λ (n : ℕ). n ≤ at) h.end_is rises) whole;
    exponent = exponent_more front at h.exponent (λ k e. new k (h.size_is ∙ e));
    at_is = at_is ∙ sym (next_more _ front at);
    end_is = end_is ∙ sym (end_more 48 front at);
    size_is = size_is ∙ ap (λ (x : Option ℕ). option_or x (record_size little bytes (at ∷ []))) h.size_is ∙ sym (mapped_more _ 1000 front at);
    micros_is = micros_is ∙ ap (λ (x : Option ℤ). option_or x (told_micros little bytes (at ∷ []))) h.micros_is ∙ sym (mapped_more _ 1001 front at);
  }

  -- no more offsets than bytes
  few_from : (low first : ℕ) (front : List ℕ) → low ≤ length bytes → AreOffsets little bytes low first front → low + length front ≤ length bytes
  few_from low first [] h k = omega arith
  few_from low first (p ∷ ps) h k = omega (arith, few_from (end_at little bytes p) (next_at little bytes p) ps k.3 k.4, size_least p, k.2)

  few : (low first : ℕ) (front : List ℕ) → AreOffsets little bytes low first front → length front ≤ length bytes
  few low first [] k = omega arith
  few low first (p ∷ ps) k = omega (arith, few_from (end_at little bytes p) (next_at little bytes p) ps k.3 k.4, size_least p)

  named : (most low first : ℕ) (front : List ℕ) → AreOffsets little bytes low first front → next_after little bytes first front ≡ 0 → length front ≤ most → named_from little bytes most first ≡ front
  named zero low first [] h ends room = refl
  named (suc most) low first [] h ends room = ap (named_from little bytes (suc most)) ends
  named zero low first (p ∷ ps) h ends room = absurd (omega (arith, room))
  named (suc most) low first (zero ∷ ps) h ends room = absurd (omega (arith, h.1))
  named (suc most) low first (suc p ∷ ps) h ends room =
      ap (named_from little bytes (suc most)) (sym h.0) ∙ ap (λ (xs : List ℕ). suc p ∷ xs) (named most (end_at little bytes (suc p)) (next_at little bytes (suc p)) ps h.4 ends (omega (arith, room)))

  -- a chain is the chain of the bytes
  pub the_offsets : (offsets : List ℕ) → IsChain little bytes offsets → offsets_of little bytes ≡ offsets
  the_offsets offsets h = named (length bytes) 48 _ offsets h.sound h.ends (few 48 _ offsets h.sound)

  -- the ends rise
  end_grows : (low first : ℕ) (front : List ℕ) → AreOffsets little bytes low first front → low ≤ end_after little bytes low front
  end_grows low first [] h = omega arith
  end_grows low first (p ∷ ps) h = omega (arith, end_grows (end_at little bytes p) (next_at little bytes p) ps h.4, size_least p, h.2)

  pub all_within : (low first n : ℕ) (front : List ℕ) → AreOffsets little bytes low first front → end_after little bytes low front ≤ n → EndWithin little bytes n front
  all_within low first n [] h within = tt
  all_within low first n (p ∷ ps) h within =
      (omega (arith, end_grows (end_at little bytes p) (next_at little bytes p) ps h.4, within), all_within (end_at little bytes p) (next_at little bytes p) n ps h.4 within)

  pub last_within : (low n : ℕ) (front : List ℕ) → low ≤ n → EndWithin little bytes n front → end_after little bytes low front ≤ n
  last_within low n [] h all = h
  last_within low n (p ∷ ps) h all = last_within (end_at little bytes p) n ps all.0 all.1

  -- of two fronts, one begins with the other
  compared : (low first : ℕ) (xs ys : List ℕ) → AreOffsets little bytes low first xs → AreOffsets little bytes low first ys → ((zs : List ℕ) × (ys ≡ xs ++ zs)) ⊎ ((zs : List ℕ) × (xs ≡ ys ++ zs))
  compared low first [] ys h k = inl (ys, refl)
  compared low first (x ∷ xs) [] h k = inr (x ∷ xs, refl)
  compared low first (x ∷ xs) (y ∷ ys) h k =
      let same : x ≡ y = h.0 ∙ sym k.0 in
      let moved = subst (λ (p : ℕ). AreOffsets little bytes (end_at little bytes p) (next_at little bytes p) ys) (sym same) k.4 in
      elim (compared (end_at little bytes x) (next_at little bytes x) xs ys h.4 moved) [
        | inl w ↦ inl (w.0, (let e = w.1 in cc))
        | inr w ↦ inr (w.0, (let e = w.1 in cc))
      ]

  -- the offset behind a front
  behind : (low first : ℕ) (front : List ℕ) (q : ℕ) (rest : List ℕ) → AreOffsets little bytes low first (front ++ q ∷ rest)
      → (q ≡ next_after little bytes first front) × (0 < q) × (end_after little bytes low front ≤ q) × (end_at little bytes q ≤ length bytes)
  behind low first [] q rest h = (h.0, h.1, h.2, h.3)
  behind low first (p ∷ ps) q rest h = behind (end_at little bytes p) (next_at little bytes p) ps q rest h.4

  exponent_behind : (front : List ℕ) (q : ℕ) (rest : List ℕ) → HasExponent little bytes (front ++ q ∷ rest) → kind_at little bytes q ≡ 1000 → record_size little bytes front ≡ None → IsInRange 7 16 (exponent_at bytes q)
  exponent_behind [] q rest h kind none = rw kind at h
  exponent_behind (p ∷ ps) q rest h kind none =
      elim (kind_at little bytes p == 1000) as (λ b. kind_at little bytes p == 1000 ≡ b → IsInRange 7 16 (exponent_at bytes q)) [
        | true ↦ λ e. (let f = rw e at none in cc)
        | false ↦ λ e. exponent_behind ps q rest (rw e at h) kind (rw e at none)
      ] refl

  -- where no blockette can stand, no front goes on
  stopped : (front : List ℕ) (q : ℕ) (rest : List ℕ) (f : RecordFault) → AreOffsets little bytes 48 (first_at little bytes) (front ++ q ∷ rest) → HasExponent little bytes (front ++ q ∷ rest)
      → RefusesAt little bytes (record_size little bytes front) (end_after little bytes 48 front) (next_after little bytes (first_at little bytes) front) f → ⊥
  stopped front q rest f sound exponent refused =
      let here = behind 48 (first_at little bytes) front q rest sound in
      let reach = reach_is q here.3 in
      let refused' = subst (λ (n : ℕ). RefusesAt little bytes (record_size little bytes front) (end_after little bytes 48 front) n f) (sym here.0) refused in
      elim refused' [
        | inl h ↦ h.0 here.2
        | inr (_, inl h) ↦ h.0 (λ w. omega (arith, w.0, reach, here.3))
        | inr (_, inr (_, inl h)) ↦ h.0 (omega (arith, reach, here.3))
        | inr (_, inr (_, inr (_, inl h))) ↦ h.0 (exponent_behind front q rest exponent)
        | inr (_, inr (_, inr (_, inr h))) ↦ h.1
      ]

  one_at : (known : Option ℕ) (low at : ℕ) → IsOne (RefusesAt little bytes known low at)
  one_at known low at = one_unless _ Chain _ (one_unless _ Chain _ (one_unless _ Short _ (one_unless _ Length _ one_of_none)))

  same_front : (front other : List ℕ) (f g : RecordFault) → front ≡ other
      → RefusesAt little bytes (record_size little bytes front) (end_after little bytes 48 front) (next_after little bytes (first_at little bytes) front) f
      → RefusesAt little bytes (record_size little bytes other) (end_after little bytes 48 other) (next_after little bytes (first_at little bytes) other) g → f ≡ g
  same_front front other f g same h k =
      one_at _ _ _ f g h (subst (λ (xs : List ℕ). RefusesAt little bytes (record_size little bytes xs) (end_after little bytes 48 xs) (next_after little bytes (first_at little bytes) xs) g) (sym same) k)

  -- a front that stops at one place, and another that begins with it
  met : (f g : RecordFault) (h : RefusesChain little bytes f) (k : RefusesChain little bytes g) (zs : List ℕ) → k.front ≡ h.front ++ zs → f ≡ g
  met f g h k [] e = same_front h.front k.front f g (sym (e ∙ append-nil h.front)) h.refused k.refused
  met f g h k (z ∷ zs) e =
      absurd (stopped h.front z zs f (subst (λ (xs : List ℕ). AreOffsets little bytes 48 (first_at little bytes) xs) e k.sound) (subst (λ (xs : List ℕ). HasExponent little bytes xs) e k.exponent) h.refused)

  -- a chain has one fault at most
  pub one_chain_fault : IsOne (RefusesChain little bytes)
  one_chain_fault f g h k =
      elim (compared 48 (first_at little bytes) h.front k.front h.sound k.sound) [
        | inl w ↦ met f g h k w.0 w.1
        | inr w ↦ sym (met g f k h w.0 w.1)
      ]

  past_front : (f : RecordFault) (offsets : List ℕ) (h : RefusesChain little bytes f) (zs : List ℕ) → IsChain little bytes offsets → HasExponent little bytes offsets → offsets ≡ h.front ++ zs → ⊥
  past_front f offsets h [] chain exponent e =
      let ends = subst (λ (xs : List ℕ). next_after little bytes (first_at little bytes) xs ≡ 0) (e ∙ append-nil h.front) chain.ends in
      omega (arith, h.more, ends)
  past_front f offsets h (z ∷ zs) chain exponent e =
      stopped h.front z zs f (subst (λ (xs : List ℕ). AreOffsets little bytes 48 (first_at little bytes) xs) e chain.sound) (subst (λ (xs : List ℕ). HasExponent little bytes xs) e exponent) h.refused

  past_chain : (f : RecordFault) (offsets : List ℕ) (h : RefusesChain little bytes f) (zs : List ℕ) → IsChain little bytes offsets → h.front ≡ offsets ++ zs → ⊥
  past_chain f offsets h [] chain e =
      let ends = subst (λ (xs : List ℕ). next_after little bytes (first_at little bytes) xs ≡ 0) (sym (e ∙ append-nil offsets)) chain.ends in
      omega (arith, h.more, ends)
  past_chain f offsets h (z ∷ zs) chain e =
      let here = behind 48 (first_at little bytes) offsets z zs (subst (λ (xs : List ℕ). AreOffsets little bytes 48 (first_at little bytes) xs) e h.sound) in
      omega (arith, here.0, here.1, chain.ends)

  -- and none where the bytes have a chain
  pub no_chain_fault : HasChain little bytes → IsNone (RefusesChain little bytes)
  no_chain_fault has f h =
      elim (compared 48 (first_at little bytes) h.front (offsets_of little bytes) h.sound has.chain.sound) [
        | inl w ↦ past_front f (offsets_of little bytes) h w.0 has.chain has.exponent w.1
        | inr w ↦ past_chain f (offsets_of little bytes) h w.0 has.chain w.1
      ]

  -- where the walk comes to the end, the bytes have a chain, and this is what it says
  module _ (front : List ℕ) (at end : ℕ) (size : Option ℕ) (micros : Option ℤ) (h : IsWalked little bytes front at end size micros) (ended : at ≡ 0) where
    whole_front : IsChain little bytes front
    whole_front = record { sound = h.sound; ends = sym h.at_is ∙ ended }

    pub walked_chain : HasChain little bytes
    walked_chain =
        let same = sym (the_offsets front whole_front) in
        record {
          chain = subst (λ (xs : List ℕ). IsChain little bytes xs) same whole_front;
          exponent = subst (λ (xs : List ℕ). HasExponent little bytes xs) same h.exponent;
        }

    pub walked_size : size ≡ record_size little bytes (offsets_of little bytes)
    walked_size = h.size_is ∙ ap (record_size little bytes) (sym (the_offsets front whole_front))

    pub walked_end : end ≡ end_after little bytes 48 (offsets_of little bytes)
    walked_end = h.end_is ∙ ap (end_after little bytes 48) (sym (the_offsets front whole_front))

    pub walked_micros : unwrap_or micros (pos 0) ≡ micros_of little bytes (offsets_of little bytes)
    walked_micros = ap (λ (x : Option ℤ). unwrap_or x (pos 0)) (h.micros_is ∙ ap (told_micros little bytes) (sym (the_offsets front whole_front)))

  -- where it is stopped, the chain is refused
  pub walked_refused : (front : List ℕ) (at end : ℕ) (size : Option ℕ) (micros : Option ℤ) → IsWalked little bytes front at end size micros → 0 < at → (f : RecordFault) → RefusesAt little bytes size end at f
      → RefusesChain little bytes f
  walked_refused front at end size micros h more f refused = record {
    front = front;
    sound = h.sound;
    exponent = h.exponent;
    more = omega (arith, h.at_is);
    refused = subst (λ (n : ℕ). RefusesAt little bytes (record_size little bytes front) (end_after little bytes 48 front) n f) h.at_is
        (subst (λ (n : ℕ). RefusesAt little bytes (record_size little bytes front) n at f) h.end_is (subst (λ (x : Option ℕ). RefusesAt little bytes x end at f) h.size_is refused));
  }
