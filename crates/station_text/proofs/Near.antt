-- A point that parts the front of a list parts the list, where it stands before the end of the front.
use Rattle.std.proofs.Common.{◌≡◌, ℕ, zero, suc, ◌<◌, ◌≤◌, Bool, true, false, List, [], ◌∷◌, length, take, slice_index_or, refl, sym, ap, ◌∙◌, arith}
use Rattle.std.specs.List.Sorted.{IsPartitionedBy, IsPartitionPoint}

module _ {X : Type 0} where
  at_front : (m : ℕ) (xs : List X) (k : ℕ) (d : X) → k < length (take m xs) → slice_index_or (take m xs) k d ≡ slice_index_or xs k d
  at_front zero xs k d h = absurd (omega (arith, h))
  at_front (suc m) [] k d h = absurd (omega (arith, h))
  at_front (suc m) (x ∷ xs) zero d h = refl
  at_front (suc m) (x ∷ xs) (suc k) d h = at_front m xs k d (omega (arith, h))

  pub front_within : (m : ℕ) (xs : List X) → length (take m xs) ≤ length xs
  front_within zero xs = omega arith
  front_within (suc m) [] = omega arith
  front_within (suc m) (x ∷ xs) = omega (arith, front_within m xs)

  pub front_most : (m : ℕ) (xs : List X) → length (take m xs) ≤ m
  front_most zero xs = omega arith
  front_most (suc m) [] = omega arith
  front_most (suc m) (x ∷ xs) = omega (arith, front_most m xs)

  pub near_parted : (p : X → Bool) (m : ℕ) (xs : List X) → IsPartitionedBy p xs → IsPartitionedBy p (take m xs)
  near_parted p m xs parted i j d le lt is =
      ap p (at_front m xs i d (omega (arith, le, lt))) ∙ parted i j d le (omega (arith, lt, front_within m xs)) (ap p (sym (at_front m xs j d lt)) ∙ is)

  pub near_point : (p : X → Bool) (m j : ℕ) (xs : List X) → IsPartitionedBy p xs → j < length (take m xs) → IsPartitionPoint (λ x. p x ≡ true) (λ x. p x ≡ false) (take m xs) j
      → IsPartitionPoint (λ x. p x ≡ true) (λ x. p x ≡ false) xs j
  near_point p m j xs parted within point = (
    λ k d low high. ap p (sym (at_front m xs k d (omega (arith, high, within)))) ∙ point.0 k d low high,
    λ k d low high.
        elim (p (slice_index_or xs k d)) as (λ b. p (slice_index_or xs k d) ≡ b → b ≡ false) [
          | true ↦ λ is. sym (parted j k d low high is) ∙ ap p (sym (at_front m xs j d within)) ∙ point.1 j d (omega arith) within
          | false ↦ λ _. refl
        ] refl,
  )
