-- The picked places are among those that are given, and they are all of them where nothing is asked of
-- the segments.
use Rattle.std.proofs.Common.{◌≡◌, ◌*◌, ◌≤◌, ℕ, Bool, true, false, not, List, [], ◌∷◌, ◌++◌, length, filter, cond, refl, sym, ap, ◌∙◌, arith, subst, length-append}
use Rattle.std.specs.Prelude.{nat_le}
use Rattle.std.specs.List.{AllByRecursion, concat}
use Rattle.std.proofs.lemmas.Bool.Decides.{nat_tests}
use Rattle.mseed_header.specs.declared.row.Row.{Row}
use Rattle.dataselect.specs.declared.lengths.Length.{Length}
use Rattle.dataselect.specs.declared.query.DataQuery.{DataQuery}
use Rattle.dataselect.specs.Chosen.{chosen_places}
use Rattle.dataselect.specs.Longest.{is_exceeded, longest_by}
use Rattle.dataselect.specs.Picked.{long_segments, longest_segments, picked_of, picked_places}
use Rattle.dataselect.specs.Runs.{put_before, runs_by}
use Rattle.dataselect.specs.Segments.{breaks_at, segment_length, lasts, is_long, is_longer, have_one_name}
use Rattle.dataselect.proofs.Bests.{all_filtered, all_longest, filter_all}

-- the runs of a list are the list
module _ (breaks : ℕ → ℕ → Bool) where
  put_whole : (x : ℕ) (runs : List (List ℕ)) → concat (put_before breaks x runs) ≡ x ∷ concat runs
  put_whole x [] = refl
  put_whole x ([] ∷ runs) = refl
  put_whole x ((y ∷ run) ∷ runs) =
      elim (breaks x y) as (λ b. concat (cond b ((x ∷ []) ∷ (y ∷ run) ∷ runs) ((x ∷ y ∷ run) ∷ runs)) ≡ x ∷ concat ((y ∷ run) ∷ runs)) [ true ↦ refl | false ↦ refl ]

  pub runs_whole : (xs : List ℕ) → concat (runs_by breaks xs) ≡ xs
  runs_whole [] = refl
  runs_whole (x ∷ xs) = put_whole x (runs_by breaks xs) ∙ ap (λ (ys : List ℕ). x ∷ ys) (runs_whole xs)

all_joined : (P : ℕ → Type 0) (xs ys : List ℕ) → AllByRecursion P xs → AllByRecursion P ys → AllByRecursion P (xs ++ ys)
all_joined P [] ys one two = two
all_joined P (x ∷ xs) ys one two = (one.0, all_joined P xs ys one.1 two)

all_concat : (P : ℕ → Type 0) (runs : List (List ℕ)) → AllByRecursion (AllByRecursion P) runs → AllByRecursion P (concat runs)
all_concat P [] all = tt
all_concat P (run ∷ runs) all = all_joined P run (concat runs) all.0 (all_concat P runs all.1)

all_front : (P : ℕ → Type 0) (xs ys : List ℕ) → AllByRecursion P (xs ++ ys) → AllByRecursion P xs
all_front P [] ys all = tt
all_front P (x ∷ xs) ys all = (all.0, all_front P xs ys all.1)

all_back : (P : ℕ → Type 0) (xs ys : List ℕ) → AllByRecursion P (xs ++ ys) → AllByRecursion P ys
all_back P [] ys all = all
all_back P (x ∷ xs) ys all = all_back P xs ys all.1

all_parts : (P : ℕ → Type 0) (runs : List (List ℕ)) → AllByRecursion P (concat runs) → AllByRecursion (AllByRecursion P) runs
all_parts P [] all = tt
all_parts P (run ∷ runs) all = (all_front P run (concat runs) all, all_parts P runs (all_back P run (concat runs) all))

-- what holds of all places holds of the picked ones
pub all_picked : (P : ℕ → Type 0) (query : DataQuery) (rows : List Row) (places : List ℕ) → AllByRecursion P places → AllByRecursion P (picked_of query rows places)
all_picked P query rows places all =
    let segments : AllByRecursion (AllByRecursion P) (runs_by (breaks_at rows) places) = all_parts P (runs_by (breaks_at rows) places) (subst (AllByRecursion P) (sym (runs_whole (breaks_at rows) places)) all) in
    let long : AllByRecursion (AllByRecursion P) (long_segments rows query.minimum places) = all_filtered (AllByRecursion P) (is_long rows query.minimum) (runs_by (breaks_at rows) places) segments in
    elim query.longest as (λ b. AllByRecursion P (concat (cond b (longest_segments rows query.minimum places) (long_segments rows query.minimum places)))) [
      | true ↦ all_concat P (longest_segments rows query.minimum places) (all_longest (have_one_name rows) (is_longer rows) (AllByRecursion P) (long_segments rows query.minimum places) long)
      | false ↦ all_concat P (long_segments rows query.minimum places) long
    ]

length_filtered : (test : List ℕ → Bool) (runs : List (List ℕ)) → length (concat (filter test runs)) ≤ length (concat runs)
length_filtered test [] = omega arith
length_filtered test (run ∷ runs) =
    let rest = length_filtered test runs in
    elim (test run) as (λ b. length (concat (cond b (run ∷ filter test runs) (filter test runs))) ≤ length (run ++ concat runs)) [
      | true ↦ omega (arith, length-append run (concat (filter test runs)), length-append run (concat runs))
      | false ↦ omega (arith, length-append run (concat runs))
    ]

length_longest : (alike longer : List ℕ → List ℕ → Bool) (runs : List (List ℕ)) → length (concat (longest_by alike longer runs)) ≤ length (concat runs)
length_longest alike longer [] = omega arith
length_longest alike longer (run ∷ runs) =
    let rest = length_longest alike longer runs in
    let others = longest_by alike longer runs in
    let fewer = length_filtered (λ y. not (alike y run)) others in
    elim (is_exceeded alike longer run runs) as (λ b. length (concat (cond b (longest_by alike longer runs) (run ∷ filter (λ y. not (alike y run)) (longest_by alike longer runs)))) ≤ length (run ++ concat runs)) [
      | true ↦ omega (arith, length-append run (concat runs))
      | false ↦ omega (arith, length-append run (concat (filter (λ y. not (alike y run)) others)), length-append run (concat runs))
    ]

-- no more places are picked than are given
pub length_picked : (query : DataQuery) (rows : List Row) (places : List ℕ) → length (picked_of query rows places) ≤ length places
length_picked query rows places =
    let long = length_filtered (is_long rows query.minimum) (runs_by (breaks_at rows) places) in
    let whole : length (concat (runs_by (breaks_at rows) places)) ≡ length places = ap length (runs_whole (breaks_at rows) places) in
    let longest = length_longest (have_one_name rows) (is_longer rows) (long_segments rows query.minimum places) in
    elim query.longest as (λ b. length (concat (cond b (longest_segments rows query.minimum places) (long_segments rows query.minimum places))) ≤ length places) [
      | true ↦ omega arith
      | false ↦ omega arith
    ]

always : (minimum : ℕ) (l : Length) → minimum ≡ 0 → lasts minimum l ≡ true
always minimum l none =
    let here : nat_le (0 * l.parts) l.micros ≡ true = grind (arith, nat_tests) in
    ap (λ (n : ℕ). nat_le (n * l.parts) l.micros) none ∙ here

all_last : (rows : List Row) (minimum : ℕ) (runs : List (List ℕ)) → minimum ≡ 0 → AllByRecursion (λ run. is_long rows minimum run ≡ true) runs
all_last rows minimum [] none = tt
all_last rows minimum (run ∷ runs) none = (always minimum (segment_length rows run) none, all_last rows minimum runs none)

-- where no least length is asked for, and not the longest segments, all places are picked
pub all_are_picked : (query : DataQuery) (rows : List Row) (places : List ℕ) → query.minimum ≡ 0 → query.longest ≡ false → picked_of query rows places ≡ places
all_are_picked query rows places none any =
    ap (λ b. concat (cond b (longest_segments rows query.minimum places) (long_segments rows query.minimum places))) any
    ∙ ap concat (filter_all (is_long rows query.minimum) (runs_by (breaks_at rows) places) (all_last rows query.minimum (runs_by (breaks_at rows) places) none))
    ∙ runs_whole (breaks_at rows) places

pub picked_are_chosen : (seen : Row → Bool) (query : DataQuery) (rows : List Row) → query.minimum ≡ 0 → query.longest ≡ false → picked_places seen query rows ≡ chosen_places seen query rows
picked_are_chosen seen query rows none any = all_are_picked query rows (chosen_places seen query rows) none any
