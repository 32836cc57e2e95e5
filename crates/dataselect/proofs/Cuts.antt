-- A list of places is cut where its first segment ends.
use Rattle.std.proofs.Common.{◌≡◌, ℕ, zero, suc, ◌<◌, ◌≤◌, Bool, true, false, List, [], ◌∷◌, ◌++◌, length, take, drop, filter, refl, sym, ap, ◌∙◌, arith, cond, append_assoc}
use Rattle.std.specs.List.{AllByRecursion, concat}
use Rattle.mseed_header.specs.declared.row.Row.{Row}
use Rattle.dataselect.specs.Runs.{put_before, runs_by, more_by, run_len_by}
use Rattle.dataselect.specs.Segments.{breaks_at, is_long}
use Rattle.dataselect.specs.Picked.{long_segments}

module _ {X : Type 0} (breaks : X → X → Bool) where
  -- the first run, and the runs of the others
  pub first_run : (x : X) (xs : List X) → runs_by breaks (x ∷ xs) ≡ take (run_len_by breaks (x ∷ xs)) (x ∷ xs) ∷ runs_by breaks (drop (run_len_by breaks (x ∷ xs)) (x ∷ xs))
  first_run x [] = refl
  first_run x (y ∷ ys) =
      let m = more_by breaks y ys in
      let rest = first_run y ys in
      ap (put_before breaks x) rest
      ∙ elim (breaks x y) as (λ b. cond b ((x ∷ []) ∷ (y ∷ take m ys) ∷ runs_by breaks (drop m ys)) ((x ∷ y ∷ take m ys) ∷ runs_by breaks (drop m ys)) ≡ take (suc (cond b 0 (suc m))) (x ∷ y ∷ ys) ∷ runs_by breaks (drop (suc (cond b 0 (suc m))) (x ∷ y ∷ ys))) [
        | true ↦ ap (λ (rs : List (List X)). (x ∷ []) ∷ rs) (sym rest)
        | false ↦ refl
      ]

  run_len_within : (x : X) (xs : List X) → more_by breaks x xs ≤ length xs
  run_len_within x [] = omega arith
  run_len_within x (y ∷ ys) =
      let rest = run_len_within y ys in
      elim (breaks x y) as (λ b. cond b 0 (suc (more_by breaks y ys)) ≤ length (y ∷ ys)) [ true ↦ omega arith | false ↦ omega arith ]

pub all_taken : {X : Type 0} (P : X → Type 0) (n : ℕ) (xs : List X) → AllByRecursion P xs → AllByRecursion P (take n xs)
all_taken P zero xs all = tt
all_taken P (suc n) [] all = tt
all_taken P (suc n) (x ∷ xs) all = (all.0, all_taken P n xs all.1)

pub all_dropped : {X : Type 0} (P : X → Type 0) (n : ℕ) (xs : List X) → AllByRecursion P xs → AllByRecursion P (drop n xs)
all_dropped P zero xs all = all
all_dropped P (suc n) [] all = tt
all_dropped P (suc n) (x ∷ xs) all = all_dropped P n xs all.1

pub run_len_le : {X : Type 0} (breaks : X → X → Bool) (xs : List X) (n : ℕ) → n ≡ run_len_by breaks xs → n ≤ length xs
run_len_le breaks [] n e = omega (arith, e)
run_len_le breaks (x ∷ xs) n e = omega (arith, e, run_len_within breaks x xs)

pub run_len_some : {X : Type 0} (breaks : X → X → Bool) (xs : List X) (n : ℕ) → n ≡ run_len_by breaks xs → 0 < length xs → 0 < n
run_len_some breaks [] n e h = absurd (omega arith)
run_len_some breaks (x ∷ xs) n e h = omega (arith, e)

module _ (rows : List Row) (minimum : ℕ) where
  abbrev long : List ℕ → List (List ℕ)
  long = long_segments rows minimum

  abbrev keeps : List ℕ → Bool
  keeps = is_long rows minimum

  cut : (xs : List ℕ) (n : ℕ) → 0 < length xs → n ≡ run_len_by (breaks_at rows) xs → long xs ≡ cond (keeps (take n xs)) (take n xs ∷ long (drop n xs)) (long (drop n xs))
  cut [] n h e = absurd (omega arith)
  cut (x ∷ xs) n h e = ap (filter keeps) (first_run (breaks_at rows) x xs) ∙ ap (λ (k : ℕ). cond (keeps (take k (x ∷ xs))) (take k (x ∷ xs) ∷ long (drop k (x ∷ xs))) (long (drop k (x ∷ xs)))) (sym e)

  -- the first segment is long enough, or isn't
  pub cut_long : (segment after rest : List ℕ) (n : ℕ) → 0 < length rest → n ≡ run_len_by (breaks_at rows) rest → segment ≡ take n rest → after ≡ drop n rest
      → is_long rows minimum segment ≡ true → long_segments rows minimum rest ≡ segment ∷ long_segments rows minimum after
  cut_long segment after rest n h e front back test =
      let t : is_long rows minimum (take n rest) ≡ true = sym (ap (is_long rows minimum) front) ∙ test in
      rw (front, back) (cut rest n h e ∙ ap (λ b. cond b (take n rest ∷ long (drop n rest)) (long (drop n rest))) t)

  pub cut_short : (segment after rest : List ℕ) (n : ℕ) → 0 < length rest → n ≡ run_len_by (breaks_at rows) rest → segment ≡ take n rest → after ≡ drop n rest
      → is_long rows minimum segment ≡ false → long_segments rows minimum rest ≡ long_segments rows minimum after
  cut_short segment after rest n h e front back test =
      let t : is_long rows minimum (take n rest) ≡ false = sym (ap (is_long rows minimum) front) ∙ test in
      rw back (cut rest n h e ∙ ap (λ b. cond b (take n rest ∷ long (drop n rest)) (long (drop n rest))) t)

-- what is put at the end stands before the rest
pub put_one : (picked new segment : List ℕ) (segments all : List (List ℕ)) (whole : List ℕ) → all ≡ segment ∷ segments → new ≡ picked ++ segment → picked ++ concat all ≡ whole → new ++ concat segments ≡ whole
put_one picked new segment segments all whole e grown is =
    rw (grown, append_assoc) (ap (λ (xs : List (List ℕ)). picked ++ concat xs) (sym e) ∙ is)
