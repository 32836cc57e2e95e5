-- Bytes have a chain of blockettes, or a fault of it.
use Rattle.std.proofs.Common.{◌≡◌, ◌⊎◌, inl, inr, ℕ, zero, suc, ◌+◌, ◌<◌, ◌≤◌, ℤ, Bool, List, [], ◌∷◌, ◌++◌, length, Option, None, Some, arith, refl}
use Rattle.std.specs.Int.{IsInRange}
use Rattle.std.specs.Option.{option_or}
use Rattle.std.proofs.lemmas.Bool.{cases_lt}
use Rattle.std.proofs.lemmas.Bool.Decides.{nat_tests}
use Rattle.mseed_header.specs.Blockettes.{HasChain, RefusesAt, RefusesChain, IsPast, kind_at, end_at, reach_at, next_at, first_at, exponent_at, record_size, told_micros}
use Rattle.mseed_header.specs.declared.header.RecordFault.{RecordFault}
use Rattle.mseed_header.specs.declared.header.RecordFault.TheVariants.{Short, Chain, Length}
use Rattle.mseed_header.proofs.Chains.{IsWalked, size_least, walked_more, walked_chain, walked_refused}

-- it holds, or it doesn't
abbrev pub Decided : Type 0 → Type 0
Decided P = P ⊎ (P → ⊥)

pub le_or_not : (m n : ℕ) → Decided (m ≤ n)
le_or_not m n =
    elim (cases_lt n m) [
      | inl lt ↦ inr (λ h. omega (arith, lt, h))
      | inr le ↦ inl le
    ]

pub in_range_or_not : (low high n : ℕ) → Decided (IsInRange low high n)
in_range_or_not low high n =
    elim (le_or_not low n) [
      | inr no_low ↦ inr (λ h. no_low h.0)
      | inl from ↦
          elim (le_or_not n high) [
            | inl to ↦ inl (from, to)
            | inr no_high ↦ inr (λ h. no_high h.1)
          ]
    ]

past_or_not : (known : Option ℕ) (reach : ℕ) → Decided (IsPast known reach)
past_or_not None reach = inr (λ h. h)
past_or_not (Some size) reach =
    elim (cases_lt size reach) [
      | inl lt ↦ inl lt
      | inr ge ↦ inr (λ h. omega (arith, h, ge))
    ]

pub same_or_not : (m n : ℕ) → Decided (m ≡ n)
same_or_not m n =
    elim (cases_lt m n) [
      | inl lt ↦ inr (λ e. omega (arith, lt, e))
      | inr ge ↦
          elim (cases_lt n m) [
            | inl gt ↦ inr (λ e. omega (arith, gt, e))
            | inr le ↦ inl (omega (arith, ge, le))
          ]
    ]

-- a blockette can stand at a place
record Stands (little : Bool) (bytes : List ℕ) (known : Option ℕ) (low at : ℕ) : Type 0 where
  rises : low ≤ at
  whole : end_at little bytes at ≤ length bytes
  exponent : kind_at little bytes at ≡ 1000 → known ≡ None → IsInRange 7 16 (exponent_at bytes at)

exponent_or_not : (little : Bool) (bytes : List ℕ) (known : Option ℕ) (at : ℕ) → Decided (kind_at little bytes at ≡ 1000 → known ≡ None → IsInRange 7 16 (exponent_at bytes at))
exponent_or_not little bytes (Some size) at = inl (λ k e. absurd cc)
exponent_or_not little bytes None at =
    elim (same_or_not (kind_at little bytes at) 1000) [
      | inr other ↦ inl (λ k e. absurd (other k))
      | inl kind ↦
          elim (in_range_or_not 7 16 (exponent_at bytes at)) [
            | inl is ↦ inl (λ k e. is)
            | inr isnt ↦ inr (λ h. isnt (h kind refl))
          ]
    ]

pub whole_end : (little : Bool) (bytes : List ℕ) (at : ℕ) → reach_at little bytes at ≤ length bytes → end_at little bytes at ≤ length bytes
whole_end little bytes at h = let least = size_least little bytes at in grind (arith, nat_tests)

stands_or_not : (little : Bool) (bytes : List ℕ) (known : Option ℕ) (low at : ℕ) → Stands little bytes known low at ⊎ ((f : RecordFault) × RefusesAt little bytes known low at f)
stands_or_not little bytes known low at =
    elim (le_or_not low at) [
      | inr no_rise ↦ inr (Chain, inl (no_rise, refl))
      | inl rises ↦
          elim (le_or_not (reach_at little bytes at) (length bytes)) [
            | inl whole ↦
                elim (exponent_or_not little bytes known at) [
                  | inl exponent ↦ inl (record { rises = rises; whole = whole_end little bytes at whole; exponent = exponent })
                  | inr bad ↦ inr (Length, inr (rises, inr ((λ w. omega (arith, w.0, whole)), inr (whole, inl (bad, refl)))))
                ]
            | inr cut ↦
                elim (past_or_not known (reach_at little bytes at)) [
                  | inl past ↦ inr (Chain, inr (rises, inl ((λ n. n (over (reach_at little bytes at) (length bytes) cut, past)), refl)))
                  | inr inside ↦ inr (Short, inr (rises, inr ((λ w. inside w.1), inl (cut, refl))))
                ]
          ]
    ]
  where
    over : (m n : ℕ) → (m ≤ n → ⊥) → n < m
    over m n h =
        elim (cases_lt n m) [
          | inl lt ↦ lt
          | inr le ↦ absurd (h le)
        ]

module _ (little : Bool) (bytes : List ℕ) where
  walk : (fuel : ℕ) (front : List ℕ) (at end : ℕ) (size : Option ℕ) (micros : Option ℤ) → IsWalked little bytes front at end size micros → end ≤ length bytes → length bytes < end + fuel
      → HasChain little bytes ⊎ ((f : RecordFault) × RefusesChain little bytes f)
  walk fuel front zero end size micros h within room = inl (walked_chain little bytes front zero end size micros h refl)
  walk zero front (suc p) end size micros h within room = absurd (omega (arith, within, room))
  walk (suc fuel) front (suc p) end size micros h within room =
      elim (stands_or_not little bytes size end (suc p)) [
        | inr refused ↦ inr (refused.0, walked_refused little bytes front (suc p) end size micros h (omega arith) refused.0 refused.1)
        | inl stands ↦
            walk fuel (front ++ suc p ∷ []) (next_at little bytes (suc p)) (end_at little bytes (suc p)) (option_or size (record_size little bytes (suc p ∷ []))) (option_or micros (told_micros little bytes (suc p ∷ [])))
            (walked_more little bytes front (suc p) end size micros _ _ _ _ h (omega arith) stands.rises stands.whole stands.exponent refl refl refl refl)
            stands.whole (omega (arith, room, stands.rises, size_least little bytes (suc p)))
      ]

  pub chain_or_fault : 48 ≤ length bytes → HasChain little bytes ⊎ ((f : RecordFault) × RefusesChain little bytes f)
  chain_or_fault long =
      walk (length bytes + 1) [] (first_at little bytes) 48 None None (record { sound = tt; exponent = tt; at_is = refl; end_is = refl; size_is = refl; micros_is = refl }) long (omega arith)
