-- Two items are in one run exactly where none behind the first and up to the second breaks.
use Rattle.std.proofs.Common.{◌≡◌, ◌↔◌, ℕ, zero, suc, ◌+◌, ◌-◌, ◌<◌, ◌≤◌, Bool, true, false, List, [], ◌∷◌, ◌++◌, length, take, Some, refl, sym, ap, ◌∙◌, arith, cond, append_assoc}
use Rattle.std.specs.Prelude.{nat_lt}
use Rattle.std.specs.List.{slice_get}
use Rattle.std.proofs.lemmas.Bool.Decides.{nat_tests}
use Rattle.list_laws.specs.Breaks.{put_before, runs_after}
use Rattle.dataselect.specs.SpanLaw.{run_at}

nat_lt_suc : (i n : ℕ) → nat_lt (suc i) (suc n) ≡ nat_lt i n
nat_lt_suc i n = grind (arith, nat_tests)

not_below_one : (i : ℕ) → nat_lt (suc i) 1 ≡ false
not_below_one i = grind (arith, nat_tests)

some_below : (n : ℕ) → nat_lt 0 (suc n) ≡ true
some_below n = grind (arith, nat_tests)

less_suc : (i n : ℕ) → suc i - suc n ≡ i - n
less_suc i n = omega arith

module _ {X : Type 0} where
  first_at : (t : X → Bool) (x : X) (runs : List (List X)) → run_at (put_before t x runs) 0 ≡ 0
  first_at t x [] = refl
  first_at t x ([] ∷ runs) = refl
  first_at t x ((y ∷ run) ∷ runs) = elim (t y) as (λ b. run_at (cond b ((x ∷ []) ∷ (y ∷ run) ∷ runs) ((x ∷ y ∷ run) ∷ runs)) 0 ≡ 0) [
    | true ↦ refl
    | false ↦ ap (λ c. cond c 0 (suc (run_at runs (0 - suc (suc (length run)))))) (some_below (suc (length run)))
  ]

  later_at : (t : X → Bool) (x y : X) (run : List X) (runs : List (List X)) (i : ℕ)
      → run_at (put_before t x ((y ∷ run) ∷ runs)) (suc i) ≡ cond (t y) 1 0 + run_at ((y ∷ run) ∷ runs) i
  later_at t x y run runs i =
      elim (t y) as (λ b. run_at (cond b ((x ∷ []) ∷ (y ∷ run) ∷ runs) ((x ∷ y ∷ run) ∷ runs)) (suc i) ≡ cond b 1 0 + run_at ((y ∷ run) ∷ runs) i) [
        | true ↦
            let rest = run_at ((y ∷ run) ∷ runs) in
            let here : suc i - 1 ≡ i = omega arith in
            let one : suc (rest i) ≡ 1 + rest i = omega arith in
            ap (λ b. cond b 0 (suc (rest (suc i - 1)))) (not_below_one i) ∙ ap (λ k. suc (rest k)) here ∙ one
        | false ↦
            let none : run_at ((y ∷ run) ∷ runs) i ≡ 0 + run_at ((y ∷ run) ∷ runs) i = omega arith in
            (λ j. cond (nat_lt_suc i (length (y ∷ run)) j) 0 (suc (run_at runs (less_suc i (length (y ∷ run)) j)))) ∙ none
      ]

  Begins : X → List (List X) → Type 0
  Begins y rs = (run : List X) × (runs : List (List X)) × (rs ≡ (y ∷ run) ∷ runs)

  begins_put : (t : X → Bool) (y : X) (rs : List (List X)) → Begins y (put_before t y rs)
  unfolding Begins
  begins_put t y [] = ([], [], refl)
  begins_put t y ([] ∷ runs) = ([], runs, refl)
  begins_put t y ((z ∷ run) ∷ runs) = elim (t z) as (λ b. Begins y (cond b ((y ∷ []) ∷ (z ∷ run) ∷ runs) ((y ∷ z ∷ run) ∷ runs))) [
    | true ↦ ([], (z ∷ run) ∷ runs, refl)
    | false ↦ (z ∷ run, runs, refl)
  ]

  module _ (b : List X → X → Bool) where
    abbrev runs_at : List X → List X → ℕ → ℕ
    runs_at earlier xs i = run_at (runs_after b earlier xs) i

    begins : (earlier : List X) (y : X) (ys : List X) → Begins y (runs_after b earlier (y ∷ ys))
    begins earlier y ys = begins_put (b (earlier ++ y ∷ [])) y (runs_after b (earlier ++ y ∷ []) ys)

    step : (earlier : List X) (x y : X) (ys : List X) (i : ℕ)
        → runs_at earlier (x ∷ y ∷ ys) (suc i) ≡ cond (b (earlier ++ x ∷ []) y) 1 0 + runs_at (earlier ++ x ∷ []) (y ∷ ys) i
    unfolding Begins
    step earlier x y ys i =
        let h = begins (earlier ++ x ∷ []) y ys in
        let t = b (earlier ++ x ∷ []) in
        ap (λ rs. run_at (put_before t x rs) (suc i)) h.2
        ∙ later_at t x y h.0 h.1 i
        ∙ ap (λ rs. cond (t y) 1 0 + run_at rs i) (sym h.2)

    -- no item behind the one place and up to the other breaks
    abbrev pub AreUnbroken : List X → List X → ℕ → ℕ → Type 0
    AreUnbroken earlier xs i j = (k : ℕ) (z : X) → i < k → k ≤ j → slice_get xs k ≡ Some z → b (earlier ++ take k xs) z ≡ false

    moved : (earlier : List X) (x : X) (xs : List X) (k : ℕ) (z : X) → b ((earlier ++ x ∷ []) ++ take k xs) z ≡ b (earlier ++ take (suc k) (x ∷ xs)) z
    moved earlier x xs k z = ap (λ es. b es z) (append_assoc earlier (x ∷ []) (take k xs))

    forth : (earlier : List X) (x : X) (xs : List X) (i j : ℕ) → AreUnbroken (earlier ++ x ∷ []) xs i j → AreUnbroken earlier (x ∷ xs) (suc i) (suc j)
    forth earlier x xs i j h zero z lt le at = absurd (omega arith)
    forth earlier x xs i j h (suc k) z lt le at = sym (moved earlier x xs k z) ∙ h k z (omega arith) (omega arith) at

    back : (earlier : List X) (x : X) (xs : List X) (i j : ℕ) → AreUnbroken earlier (x ∷ xs) (suc i) (suc j) → AreUnbroken (earlier ++ x ∷ []) xs i j
    back earlier x xs i j h k z lt le at = moved earlier x xs k z ∙ h (suc k) z (omega arith) (omega arith) at

    no_break : (c : Bool) (r : ℕ) → 0 ≡ cond c 1 0 + r → (c ≡ false) × (r ≡ 0)
    no_break true r h = absurd (omega (arith, h))
    no_break false r h = (refl, omega (arith, h))

    pub one_run : (earlier xs : List X) (i j : ℕ) → i ≤ j → j < length xs → (runs_at earlier xs i ≡ runs_at earlier xs j) ↔ AreUnbroken earlier xs i j
    one_run earlier [] i j le lt = absurd (omega arith)
    one_run earlier (x ∷ xs) zero zero le lt = (λ _ k z above below at. absurd (omega arith), λ _. refl)
    one_run earlier (x ∷ []) i (suc j) le lt = absurd (omega arith)
    one_run earlier (x ∷ []) (suc i) zero le lt = absurd (omega arith)
    one_run earlier (x ∷ y ∷ ys) (suc i) zero le lt = absurd (omega arith)
    one_run earlier (x ∷ y ∷ ys) (suc i) (suc j) le lt =
        let rest = one_run (earlier ++ x ∷ []) (y ∷ ys) i j (omega arith) (omega arith) in
        let c = cond (b (earlier ++ x ∷ []) y) 1 0 in (
          λ h.
              let same : c + runs_at (earlier ++ x ∷ []) (y ∷ ys) i ≡ c + runs_at (earlier ++ x ∷ []) (y ∷ ys) j = sym (step earlier x y ys i) ∙ h ∙ step earlier x y ys j in
              forth earlier x (y ∷ ys) i j (rest.0 (omega (arith, same))),
          λ u. step earlier x y ys i ∙ ap (λ r. c + r) (rest.1 (back earlier x (y ∷ ys) i j u)) ∙ sym (step earlier x y ys j),
        )
    one_run earlier (x ∷ y ∷ ys) zero (suc j) le lt =
        let rest = one_run (earlier ++ x ∷ []) (y ∷ ys) 0 j (omega arith) (omega arith) in
        let c = b (earlier ++ x ∷ []) y in
        let here = first_at (b (earlier ++ x ∷ [])) x (runs_after b (earlier ++ x ∷ []) (y ∷ ys)) in
        let next = first_at (b ((earlier ++ x ∷ []) ++ y ∷ [])) y (runs_after b ((earlier ++ x ∷ []) ++ y ∷ []) ys) in (
          λ h k z above below at.
              let zeros = no_break c (runs_at (earlier ++ x ∷ []) (y ∷ ys) j) (sym here ∙ h ∙ step earlier x y ys j) in
              from_zero earlier x y ys j zeros.0 (rest.0 (next ∙ sym zeros.1)) k z above below at,
          λ u.
              let one : c ≡ false = u 1 y (omega arith) (omega arith) refl in
              let none : 0 ≡ 0 + 0 = omega arith in
              here ∙ none ∙ (λ i. cond (sym one i) 1 0 + (sym next ∙ rest.1 (λ k z above below at. moved earlier x (y ∷ ys) k z ∙ u (suc k) z (omega arith) (omega arith) at)) i) ∙ sym (step earlier x y ys j),
        )
      where
        from_zero : (earlier : List X) (x y : X) (ys : List X) (j : ℕ) → b (earlier ++ x ∷ []) y ≡ false → AreUnbroken (earlier ++ x ∷ []) (y ∷ ys) 0 j → AreUnbroken earlier (x ∷ y ∷ ys) 0 (suc j)
        from_zero earlier x y ys j one rest zero z above below at = absurd (omega arith)
        from_zero earlier x y ys j one rest (suc zero) z above below at = let same : y ≡ z = cc in ap (b (earlier ++ x ∷ [])) (sym same) ∙ one
        from_zero earlier x y ys j one rest (suc (suc k)) z above below at = sym (moved earlier x (y ∷ ys) (suc k) z) ∙ rest (suc k) z (omega arith) (omega arith) at
