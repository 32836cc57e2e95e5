-- Rows in order, cut into groups and these into runs: the first group, and lists of more than rows.
use Rattle.std.proofs.Common.{◌≡◌, ℕ, ◌+◌, ◌-◌, ◌<◌, ◌≤◌, Bool, true, false, List, [], ◌∷◌, ◌++◌, map, length, take, drop, refl, sym, ap, ◌∙◌, arith, cond, append_assoc}
use Rattle.std.specs.List.{flat_map, fold}
use Rattle.std.proofs.lemmas.Grind.{flat_map-append}
use Rattle.std.proofs.lemmas.List.{map-append, take_all, length-drop, length-take-le, drop-drop}
use Rattle.list_laws.specs.Breaks.{put_before, runs_after, made_of, made_of_each}
use Rattle.mseed_header.specs.declared.header.Header.{Header}
use Rattle.dataselect.specs.Runs.{runs_by, run_len_by}
use Rattle.dataselect.specs.Runs as pairs
use Rattle.dataselect.specs.Spans.{Merging, breaks, is_other_group, groups_of, runs_in_group, span_runs}
use Rattle.dataselect.proofs.Cuts.{first_run, run_len_le}

module _ {X S : Type 0} (m : Merging) (header : X → Header) (begin : X → S) (grow : S → X → S) where
  -- the spans of rows in order
  abbrev pub spans_of : List X → List S
  spans_of xs = made_of_each begin grow (span_runs m header xs)

  abbrev pub other : X → X → Bool
  other x y = is_other_group m (header x) (header y)

  -- the spans of the first group, and those of the others
  pub group_cut : (xs : List X) (n : ℕ) → 0 < length xs → n ≡ run_len_by other xs
      → spans_of xs ≡ made_of_each begin grow (runs_in_group m header (take n xs)) ++ spans_of (drop n xs)
  group_cut [] n some e = absurd (omega arith)
  group_cut (x ∷ xs) n some e =
      ap (λ gs. made_of_each begin grow (flat_map (runs_in_group m header) gs)) (first_run other x xs)
      ∙ ap (λ k. made_of_each begin grow (runs_in_group m header (take k (x ∷ xs)) ++ span_runs m header (drop k (x ∷ xs)))) (sym e)
      ∙ flat_map-append (made_of begin grow) (runs_in_group m header (take n (x ∷ xs))) (span_runs m header (drop n (x ∷ xs)))

module _ {X Y : Type 0} (f : Y → X) where
  before_mapped : (b : X → Bool) (y : Y) (runs : List (List Y)) → put_before b (f y) (map (map f) runs) ≡ map (map f) (put_before (λ z. b (f z)) y runs)
  before_mapped b y [] = refl
  before_mapped b y ([] ∷ runs) = refl
  before_mapped b y ((z ∷ run) ∷ runs) =
      elim (b (f z)) as (λ c. cond c ((f y ∷ []) ∷ (f z ∷ map f run) ∷ map (map f) runs) ((f y ∷ f z ∷ map f run) ∷ map (map f) runs) ≡ map (map f) (cond c ((y ∷ []) ∷ (z ∷ run) ∷ runs) ((y ∷ z ∷ run) ∷ runs))) [
        | true ↦ refl
        | false ↦ refl
      ]

  pair_mapped : (b : X → X → Bool) (y : Y) (runs : List (List Y)) → pairs.put_before b (f y) (map (map f) runs) ≡ map (map f) (pairs.put_before (λ u v. b (f u) (f v)) y runs)
  pair_mapped b y [] = refl
  pair_mapped b y ([] ∷ runs) = refl
  pair_mapped b y ((z ∷ run) ∷ runs) =
      elim (b (f y) (f z)) as (λ c. cond c ((f y ∷ []) ∷ (f z ∷ map f run) ∷ map (map f) runs) ((f y ∷ f z ∷ map f run) ∷ map (map f) runs) ≡ map (map f) (cond c ((y ∷ []) ∷ (z ∷ run) ∷ runs) ((y ∷ z ∷ run) ∷ runs))) [
        | true ↦ refl
        | false ↦ refl
      ]

  groups_mapped : (b : X → X → Bool) (ys : List Y) → runs_by b (map f ys) ≡ map (map f) (runs_by (λ u v. b (f u) (f v)) ys)
  groups_mapped b [] = refl
  groups_mapped b (y ∷ ys) = ap (pairs.put_before b (f y)) (groups_mapped b ys) ∙ pair_mapped b y (runs_by (λ u v. b (f u) (f v)) ys)

  more_mapped : (earlier : List Y) (y : Y) → map f earlier ++ f y ∷ [] ≡ map f (earlier ++ y ∷ [])
  more_mapped earlier y = sym (map-append f earlier (y ∷ []))

  runs_mapped : (b : List X → X → Bool) (c : List Y → Y → Bool) → ((earlier : List Y) (y : Y) → b (map f earlier) (f y) ≡ c earlier y)
      → (earlier ys : List Y) → runs_after b (map f earlier) (map f ys) ≡ map (map f) (runs_after c earlier ys)
  runs_mapped b c same earlier [] = refl
  runs_mapped b c same earlier (y ∷ ys) =
      let later = earlier ++ y ∷ [] in
      ap (λ es. put_before (b es) (f y) (runs_after b es (map f ys))) (more_mapped earlier y)
      ∙ ap (put_before (b (map f later)) (f y)) (runs_mapped b c same later ys)
      ∙ before_mapped (b (map f later)) y (runs_after c later ys)
      ∙ ap (λ (t : Y → Bool). map (map f) (put_before t y (runs_after c later ys))) (λ i z. same later z i)

  module _ {S : Type 0} (begin : X → S) (grow : S → X → S) where
    fold_mapped : (s : S) (ys : List Y) → fold grow s (map f ys) ≡ fold (λ s y. grow s (f y)) s ys
    fold_mapped s [] = refl
    fold_mapped s (y ∷ ys) = fold_mapped (grow s (f y)) ys

    made_mapped : (ys : List Y) → made_of begin grow (map f ys) ≡ made_of (λ y. begin (f y)) (λ s y. grow s (f y)) ys
    made_mapped [] = refl
    made_mapped (y ∷ ys) = ap (λ (s : S). s ∷ []) (fold_mapped (begin (f y)) ys)

    all_made_mapped : (runs : List (List Y)) → made_of_each begin grow (map (map f) runs) ≡ made_of_each (λ y. begin (f y)) (λ s y. grow s (f y)) runs
    all_made_mapped [] = refl
    all_made_mapped (run ∷ runs) = (λ i. made_mapped run i ++ all_made_mapped runs i)

    module _ (m : Merging) (header : X → Header) where
      twice_mapped : (ys : List Y) → map header (map f ys) ≡ map (λ y. header (f y)) ys
      twice_mapped [] = refl
      twice_mapped (y ∷ ys) = ap (λ hs. header (f y) ∷ hs) (twice_mapped ys)

      in_group_mapped : (ys : List Y) → runs_in_group m header (map f ys) ≡ map (map f) (runs_in_group m (λ y. header (f y)) ys)
      in_group_mapped ys =
          runs_mapped (λ earlier x. breaks m (map header earlier) (header x)) (λ earlier y. breaks m (map (λ z. header (f z)) earlier) (header (f y)))
          (λ earlier y. ap (λ es. breaks m es (header (f y))) (twice_mapped earlier)) [] ys

      both_mapped : (gs : List (List Y)) → flat_map (runs_in_group m header) (map (map f) gs) ≡ map (map f) (flat_map (runs_in_group m (λ y. header (f y))) gs)
      both_mapped [] = refl
      both_mapped (g ∷ gs) =
          (λ i. in_group_mapped g i ++ both_mapped gs i)
          ∙ sym (map-append (map f) (runs_in_group m (λ y. header (f y)) g) (flat_map (runs_in_group m (λ y. header (f y))) gs))

      -- the spans of what is more than rows are those of the rows
      pub spans_mapped : (ys : List Y) → spans_of m header begin grow (map f ys) ≡ spans_of m (λ y. header (f y)) (λ y. begin (f y)) (λ s y. grow s (f y)) ys
      spans_mapped ys =
          ap (λ gs. made_of_each begin grow (flat_map (runs_in_group m header) gs)) (groups_mapped (λ x y. is_other_group m (header x) (header y)) ys)
          ∙ ap (made_of_each begin grow) (both_mapped (groups_of m (λ y. header (f y)) ys))
          ∙ all_made_mapped (span_runs m (λ y. header (f y)) ys)

module _ {X S : Type 0} (m : Merging) (header : X → Header) (begin : X → S) (grow : S → X → S) (xs : List X) (b n : ℕ) (begun : b < length xs)
    (len : n ≡ run_len_by (other m header begin grow) (take (length xs - b) (drop b xs))) where
  rest_is : take (length xs - b) (drop b xs) ≡ drop b xs
  rest_is = take_all (length xs - b) (drop b xs) (omega (arith, length-drop b xs))

  rest_some : 0 < length (drop b xs)
  rest_some = omega (arith, length-drop b xs)

  len_is : n ≡ run_len_by (other m header begin grow) (drop b xs)
  len_is = len ∙ ap (run_len_by (other m header begin grow)) rest_is

  -- the next group is within the rows
  pub next_within : b + n ≤ length xs
  next_within = omega (arith, length-drop b xs, run_len_le (other m header begin grow) (drop b xs) n len_is)

  pub next_len : n ≡ length (take n (take (length xs - b) (drop b xs)))
  next_len = sym (ap (λ ys. length (take n ys)) rest_is ∙ length-take-le n (drop b xs) (run_len_le (other m header begin grow) (drop b xs) n len_is))

  -- what its spans are
  pub next_made : (old new : List S) → new ≡ old ++ made_of_each begin grow (runs_in_group m header (take n (take (length xs - b) (drop b xs))))
      → old ++ spans_of m header begin grow (drop b xs) ≡ spans_of m header begin grow xs → new ++ spans_of m header begin grow (drop (b + n) xs) ≡ spans_of m header begin grow xs
  next_made old new grown so_far =
      let group = made_of_each begin grow (runs_in_group m header (take n (drop b xs))) in
      let rest = spans_of m header begin grow (drop n (drop b xs)) in
      (λ i. (grown ∙ ap (λ ys. old ++ made_of_each begin grow (runs_in_group m header (take n ys))) rest_is) i ++ spans_of m header begin grow (sym (drop-drop n b xs) i))
      ∙ append_assoc old group rest
      ∙ ap (λ ss. old ++ ss) (sym (group_cut m header begin grow (drop b xs) n rest_some len_is))
      ∙ so_far
