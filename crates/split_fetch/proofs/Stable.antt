-- Items put in order, one after another, are sorted, and what is equal stays in its order.
use Rattle.std.proofs.Common.{◌≡◌, ℕ, zero, suc, ◌+◌, ◌<◌, Bool, true, false, not, cond, List, [], ◌∷◌, ◌++◌, filter, get_or, length, Ordering, IsPermutation, refl, sym, ap, ◌∙◌, subst, arith, append-nil, append_assoc}
use Rattle.std.specs.Prelude.{IsSorted}
use Rattle.std.specs.Cmp.{IsTotalOrder}
use Rattle.std.specs.List.{AllByRecursion}
use Rattle.std.specs.List.Sorted.{ties, IsStable}
use Rattle.std.specs.Ordering.{is_lt, ordering_reverse}
use Rattle.std.specs.declared.cmp.Ordering.TheVariants.{Less, Equal, Greater}
use Rattle.std.proofs.lemmas.Bool.{and_parts}
use Rattle.std.proofs.lemmas.List.Sorted.{IsPermutation-refl, IsPermutation-sym, IsPermutation-trans, IsPermutation-cons, IsPermutation-middle, IsPermutation-append_left}
use Rattle.split_fetch.specs.Gathered.{put_behind, put_all_behind}
use Rattle.split_fetch.proofs.Rising.{rises_all, filter_all}
use Rattle.split_fetch.proofs.Woven.{Rises}

module _ {X : Type 0} (cmp : X → X → Ordering) where
  put_permutes : (ys : List X) (x : X) → IsPermutation (x ∷ ys) (put_behind cmp ys x)
  put_permutes [] x = IsPermutation-refl (x ∷ [])
  put_permutes (y ∷ ys) x =
      elim (is_lt (cmp x y)) as (λ b. IsPermutation (x ∷ y ∷ ys) (cond b (x ∷ y ∷ ys) (y ∷ put_behind cmp ys x))) [
        | true ↦ IsPermutation-refl (x ∷ y ∷ ys)
        | false ↦
            IsPermutation-trans (x ∷ y ∷ ys) (y ∷ x ∷ ys) (y ∷ put_behind cmp ys x)
            (IsPermutation-sym (y ∷ x ∷ ys) (x ∷ y ∷ ys) (IsPermutation-middle (y ∷ []) x ys))
            (IsPermutation-cons y (x ∷ ys) (put_behind cmp ys x) (put_permutes ys x))
      ]

  all_permute : (done xs : List X) → IsPermutation (done ++ xs) (put_all_behind cmp done xs)
  all_permute done [] = subst (λ (l : List X). IsPermutation l done) (sym (append-nil done)) (IsPermutation-refl done)
  all_permute done (x ∷ xs) =
      let put = put_behind cmp done x in
      IsPermutation-trans (done ++ x ∷ xs) ((x ∷ done) ++ xs) (put_all_behind cmp put xs) (IsPermutation-middle done x xs)
      (IsPermutation-trans ((x ∷ done) ++ xs) (put ++ xs) (put_all_behind cmp put xs)
      (IsPermutation-append_left xs (x ∷ done) put (put_permutes done x)) (all_permute put xs))

  -- nothing is left out, and nothing added
  pub permuted : (xs : List X) → IsPermutation xs (put_all_behind cmp [] xs)
  permuted xs = all_permute [] xs

  from_rising : (xs : List X) → Rises cmp xs → (k : ℕ) (d : X) → k + 1 < length xs
      → is_lt (cmp (get_or xs (k + 1) d) (get_or xs k d)) ≡ false
  from_rising [] up k d within = absurd (omega (arith, within))
  from_rising (x ∷ []) up k d within = absurd (omega (arith, within))
  from_rising (x ∷ y ∷ ys) up zero d within = up.0.0
  from_rising (x ∷ y ∷ ys) up (suc k) d within =
      let next : suc k + 1 ≡ suc (k + 1) = omega arith in
      ap (λ (n : ℕ). is_lt (cmp (get_or (x ∷ y ∷ ys) n d) (get_or (y ∷ ys) k d))) next
      ∙ from_rising (y ∷ ys) up.1 k d (omega (arith, within))

  module _ (total : IsTotalOrder cmp) where
    -- no item is less than the one before it
    pub sorted : (xs : List X) → IsSorted cmp (put_all_behind cmp [] xs)
    sorted xs = λ k d _ within. from_rising (put_all_behind cmp [] xs) (rises_all total [] xs tt) k d within

    abbrev less : X → X → Bool
    less x y = is_lt (cmp x y)

    module _ (x : X) where
      abbrev Ties : X → Type 0
      Ties y = ties less x y ≡ true

      neither : (o : Ordering) → not (is_lt (ordering_reverse o)) ≡ true → not (is_lt o) ≡ true → o ≡ Equal
      neither Less h k = absurd (let e : false ≡ true = k in (cc))
      neither Equal h k = refl
      neither Greater h k = absurd (let e : false ≡ true = h in (cc))

      not_true : (b : Bool) → not b ≡ true → b ≡ false
      not_true true h = absurd (let e : false ≡ true = h in (cc))
      not_true false h = refl

      not_less : (y z : X) → Ties y → Ties z → is_lt (cmp y z) ≡ false
      not_less y z h k =
          let first = and_parts (not (less x y)) (not (less y x)) h in
          let second = and_parts (not (less x z)) (not (less z x)) k in
          let turned : not (is_lt (ordering_reverse (cmp y x))) ≡ true = ap (λ (o : Ordering). not (is_lt o)) (sym (total.antisymm x y))
          ∙ first.0 in
          ap is_lt (total.congr y x z (neither (cmp y x) turned first.1)) ∙ not_true (less x z) second.0

      put_last : (done : List X) (y : X) → AllByRecursion Ties done → Ties y → put_behind cmp done y ≡ done ++ y ∷ []
      put_last [] y all tie = refl
      put_last (z ∷ done) y all tie =
          ap (λ (b : Bool). cond b (y ∷ z ∷ done) (z ∷ put_behind cmp done y)) (not_less y z tie all.0)
          ∙ ap (λ (l : List X). z ∷ l) (put_last done y all.1 tie)

      one_more : (done : List X) (y : X) → AllByRecursion Ties done → Ties y → AllByRecursion Ties (done ++ y ∷ [])
      one_more [] y all tie = (tie, tt)
      one_more (z ∷ done) y all tie = (all.0, one_more done y all.1 tie)

      all_last : (done ys : List X) → AllByRecursion Ties done → AllByRecursion Ties ys → put_all_behind cmp done ys ≡ done ++ ys
      all_last done [] all more = sym (append-nil done)
      all_last done (y ∷ ys) all more =
          ap (λ (l : List X). put_all_behind cmp l ys) (put_last done y all more.0)
          ∙ all_last (done ++ y ∷ []) ys (one_more done y all more.0) more.1
          ∙ append_assoc done (y ∷ []) ys

      all_tie : (xs : List X) → AllByRecursion Ties (filter (ties less x) xs)
      all_tie [] = tt
      all_tie (y ∷ xs) =
          let rest = all_tie xs in
          elim (ties less x y) as (λ b. ties less x y ≡ b → AllByRecursion Ties
          (cond b (y ∷ filter (ties less x) xs) (filter (ties less x) xs))) [
            | true ↦ λ e. (e, rest)
            | false ↦ λ _. rest
          ] refl

    -- what is equal stays in its order
    pub stable : (xs : List X) → IsStable cmp xs (put_all_behind cmp [] xs)
    stable xs = λ x.
        filter_all total (ties less x) [] xs tt ∙ all_last x [] (filter (ties less x) xs) tt (all_tie x xs)
