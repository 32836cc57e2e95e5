-- A chain that goes past the length of its record is refused, however many bytes there are.
use Rattle.std.proofs.Common.{◌⊎◌, inl, inr, ℕ, zero, suc, ◌+◌, ◌<◌, ◌≤◌, ◌≡◌, ℤ, Bool, List, [], ◌∷◌, ◌++◌, length, Option, Some, arith, refl, sym}
use Rattle.std.specs.Option.{option_or}
use Rattle.std.proofs.lemmas.Bool.{cases_lt}
use Rattle.std.proofs.lemmas.Bool.Decides.{nat_tests}
use Rattle.mseed_header.specs.Blockettes.{HasChain, EndWithin, end_at, reach_at, next_at, offsets_of, record_size, told_micros}
use Rattle.mseed_header.specs.Header.{RefusesBody}
use Rattle.mseed_header.specs.declared.header.RecordFault.TheVariants.{Chain}
use Rattle.mseed_header.proofs.Chains.{IsWalked, size_least, reach_is, last_within, walked_more, walked_chain, walked_size, walked_end, walked_refused}
use Rattle.mseed_header.proofs.Fronts.{long_record}
use Rattle.mseed_header.proofs.OneChain.{le_or_not, whole_end}

module _ (little : Bool) (bytes : List ℕ) where
  pub reach_least : (p : ℕ) → p + 4 ≤ reach_at little bytes p
  reach_least p = let least = size_least little bytes p in grind (arith, nat_tests)

  -- a walk that has come past the length
  record IsBeyond (front : List ℕ) (at end size : ℕ) (micros : Option ℤ) : Type 0 where
    walked : IsWalked little bytes front at end (Some size) micros
    past : size < end
    within : end ≤ length bytes

  -- a blockette past the length is refused, or the walk goes on behind it
  step : (front : List ℕ) (at end size : ℕ) (micros : Option ℤ) → IsWalked little bytes front at end (Some size) micros → 0 < at → (end ≤ at → size < reach_at little bytes at)
      → RefusesBody little bytes Chain ⊎ ((end ≤ at) × IsBeyond (front ++ at ∷ []) (next_at little bytes at) (end_at little bytes at) size (option_or micros (told_micros little bytes (at ∷ []))))
  step front at end size micros walked some past =
      elim (le_or_not end at) [
        | inr no_rise ↦ inl (inl (walked_refused little bytes front at end (Some size) micros walked some Chain (inl (no_rise, refl))))
        | inl rises ↦
            elim (cases_lt (length bytes) (reach_at little bytes at)) [
              | inl cut ↦ inl (inl (walked_refused little bytes front at end (Some size) micros walked some Chain (inr (rises, inl ((λ no. no (cut, past rises)), refl)))))
              | inr reached ↦
                  let whole = whole_end little bytes at reached in
                  inr (
                    rises,
                    record {
                      walked = walked_more little bytes front at end (Some size) micros _ _ _ _ walked some rises whole (λ kind none. absurd cc) refl refl refl refl;
                      past = omega (arith, past rises, reach_is little bytes at whole);
                      within = whole;
                    },
                  )
            ]
      ]

  -- where the chain ends past the length, its blockettes aren't held
  ended : (front : List ℕ) (end size : ℕ) (micros : Option ℤ) → IsBeyond front 0 end size micros → RefusesBody little bytes Chain
  ended front end size micros h =
      let chain : HasChain little bytes = walked_chain little bytes front 0 end (Some size) micros h.walked refl in
      let is : record_size little bytes (offsets_of little bytes) ≡ Some size = sym (walked_size little bytes front 0 end (Some size) micros h.walked refl) in
      let over : ¬ (EndWithin little bytes size (offsets_of little bytes)) =
      λ all. omega (arith, last_within little bytes 48 size (offsets_of little bytes) (long_record little bytes size chain is) all, walked_end little bytes front 0 end (Some size) micros h.walked refl, h.past) in
      inr (chain, inr (rw is refl, inl (rw is over, refl)))

  walk : (fuel : ℕ) (front : List ℕ) (at end size : ℕ) (micros : Option ℤ) → IsBeyond front at end size micros → length bytes < end + fuel → RefusesBody little bytes Chain
  walk fuel front zero end size micros h room = ended front end size micros h
  walk zero front (suc p) end size micros h room = absurd (omega (arith, h.within, room))
  walk (suc fuel) front (suc p) end size micros h room =
      elim (step front (suc p) end size micros h.walked (omega arith) (λ rises. omega (arith, rises, h.past, reach_least (suc p)))) [
        | inl refused ↦ refused
        | inr more ↦ walk fuel (front ++ suc p ∷ []) (next_at little bytes (suc p)) (end_at little bytes (suc p)) size _ more.1 (omega (arith, room, more.0, size_least little bytes (suc p)))
      ]

  -- a chain with a blockette that reaches past the length is refused
  pub overrun : (front : List ℕ) (at end size : ℕ) (micros : Option ℤ) → IsWalked little bytes front at end (Some size) micros → 0 < at → size < reach_at little bytes at → RefusesBody little bytes Chain
  overrun front at end size micros walked some past =
      elim (step front at end size micros walked some (λ rises. past)) [
        | inl refused ↦ refused
        | inr more ↦ walk (length bytes + 1) (front ++ at ∷ []) (next_at little bytes at) (end_at little bytes at) size _ more.1 (omega arith)
      ]
