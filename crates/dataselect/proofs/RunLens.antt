-- How many items the first run has, found from the left.
use Rattle.std.proofs.Common.{◌≡◌, ℕ, zero, suc, ◌+◌, ◌-◌, ◌<◌, ◌≤◌, Bool, false, List, [], ◌∷◌, length, drop, get_or, refl, sym, ap, ◌∙◌, arith, cond, add-one, drop-cons}
use Rattle.std.proofs.lemmas.List.{length-drop}
use Rattle.dataselect.specs.Runs.{run_len_by, more_by}

module _ {X : Type 0} (b : X → X → Bool) where
  dropped : (xs : List X) (i : ℕ) (x : X) → i < length xs → x ≡ get_or xs i x → drop i xs ≡ x ∷ drop (i + 1) xs
  dropped xs i x h is = rw (drop-cons xs i x h, ← is, add-one i) refl

  joined : (xs : List X) (j : ℕ) (x y : X) → j + 1 < length xs → x ≡ get_or xs j x → y ≡ get_or xs (j + 1) y → b x y ≡ false → run_len_by b (drop j xs) ≡ suc (run_len_by b (drop (j + 1) xs))
  joined xs j x y h x_is y_is test =
      ap (run_len_by b) (dropped xs j x (omega arith) x_is)
      ∙ ap (λ zs. run_len_by b (x ∷ zs)) (dropped xs (j + 1) y h y_is)
      ∙ ap (λ c. suc (cond c 0 (suc (more_by b y (drop (j + 1 + 1) xs))))) test
      ∙ ap (λ zs. suc (run_len_by b zs)) (sym (dropped xs (j + 1) y h y_is))

  -- an item that doesn't break
  pub ahead : (xs : List X) (i : ℕ) (x y : X) → 1 ≤ i → i < length xs → x ≡ get_or xs (i - 1) x → y ≡ get_or xs i y → b x y ≡ false
      → run_len_by b xs ≡ (i - 1) + run_len_by b (drop (i - 1) xs) → run_len_by b xs ≡ (i + 1 - 1) + run_len_by b (drop (i + 1 - 1) xs)
  ahead xs zero x y some h x_is y_is test so_far = absurd (omega arith)
  ahead xs (suc j) x y some h x_is y_is test so_far =
      let e : suc j - 1 ≡ j = omega arith in
      let f : suc j ≡ j + 1 = omega arith in
      let g : suc j + 1 - 1 ≡ j + 1 = omega arith in
      let more = joined xs j x y (omega arith) (x_is ∙ ap (λ k. get_or xs k x) e) (y_is ∙ ap (λ k. get_or xs k y) f) test in
      let sum : (j + suc (run_len_by b (drop (j + 1) xs))) ≡ (j + 1) + run_len_by b (drop (j + 1) xs) = omega arith in
      so_far ∙ ap (λ k. k + run_len_by b (drop k xs)) e ∙ ap (λ k. j + k) more ∙ sum ∙ ap (λ k. k + run_len_by b (drop k xs)) (sym g)

  one_long : (xs : List X) → length xs ≡ 1 → run_len_by b xs ≡ 1
  one_long [] h = absurd (omega (arith, h))
  one_long (x ∷ []) h = refl
  one_long (x ∷ y ∷ ys) h = absurd (omega (arith, h))

  -- no item breaks
  pub to_end : (xs : List X) (i : ℕ) → 0 < length xs → i ≡ length xs → run_len_by b xs ≡ (i - 1) + run_len_by b (drop (i - 1) xs) → length xs ≡ run_len_by b xs
  to_end xs i some e so_far =
      let left : length (drop (i - 1) xs) ≡ 1 = omega (arith, length-drop (i - 1) xs, e) in
      omega (arith, so_far, one_long (drop (i - 1) xs) left, e)
