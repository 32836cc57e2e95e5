-- Spans of rows of which some are of other groups than the others, and what holds of all that spans are made of.
use Rattle.std.proofs.Common.{◌≡◌, ℕ, ◌+◌, Bool, true, false, cond, List, [], ◌∷◌, ◌++◌, map, take, drop, refl, sym, ap, ◌∙◌, Ordering}
use Rattle.std.specs.List.{flat_map, fold, AllByRecursion}
use Rattle.std.specs.List.Sorted.{IsStrictlySortedBy}
use Rattle.std.specs.declared.cmp.Ordering.TheVariants.{Less}
use Rattle.std.proofs.lemmas.Grind.{flat_map-append}
use Rattle.list_laws.specs.Breaks as breaking
use Rattle.list_laws.specs.Breaks.{runs_after, made_of, made_of_each}
use Rattle.list_laws.specs.InOrder.{in_order}
use Rattle.list_laws.proofs.Keys.{all_in_order}
use Rattle.mseed_header.specs.declared.header.Header.{Header}
use Rattle.mseed_header.specs.declared.row.Row.{Row}
use Rattle.dataselect.specs.Runs.{put_before, runs_by, more_by, run_len_by}
use Rattle.dataselect.specs.Spans.{Merging, breaks, is_other_group, groups_of, runs_in_group, span_runs, placed_cmp, placed_from, rows_in_order}
use Rattle.dataselect.proofs.Cuts.{first_run}
use Rattle.dataselect.proofs.GroupCuts.{spans_of}
use Rattle.dataselect.proofs.Splits.{all_append, all_weaker}

module _ {X : Type 0} (b : X → X → Bool) where
  before_more : (x : X) (run : List X) (runs more : List (List X)) → put_before b x ((run ∷ runs) ++ more) ≡ put_before b x (run ∷ runs) ++ more
  before_more x [] runs more = refl
  before_more x (y ∷ run) runs more =
      elim (b x y) as (λ c. cond c ((x ∷ []) ∷ (y ∷ run) ∷ (runs ++ more)) ((x ∷ y ∷ run) ∷ (runs ++ more)) ≡ cond c ((x ∷ []) ∷ (y ∷ run) ∷ runs) ((x ∷ y ∷ run) ∷ runs) ++ more) [
        | true ↦ refl
        | false ↦ refl
      ]

  -- two lists whose items break from each other
  pub runs_append : (xs ys : List X) → AllByRecursion (λ x. AllByRecursion (λ y. b x y ≡ true) ys) xs → runs_by b (xs ++ ys) ≡ runs_by b xs ++ runs_by b ys
  runs_append [] ys all = refl
  runs_append (x ∷ []) [] all = refl
  runs_append (x ∷ []) (y ∷ ys) all =
      let rest = runs_by b (drop (run_len_by b (y ∷ ys)) (y ∷ ys)) in
      ap (put_before b x) (first_run b y ys)
      ∙ ap (λ c. cond c ((x ∷ []) ∷ (y ∷ take (more_by b y ys) ys) ∷ rest) ((x ∷ y ∷ take (more_by b y ys) ys) ∷ rest)) all.0.0
      ∙ ap (λ (rs : List (List X)). (x ∷ []) ∷ rs) (sym (first_run b y ys))
  runs_append (x ∷ z ∷ xs) ys all =
      let more = runs_by b ys in
      ap (put_before b x) (runs_append (z ∷ xs) ys all.1)
      ∙ ap (λ (rs : List (List X)). put_before b x (rs ++ more)) (first_run b z xs)
      ∙ before_more x (take (run_len_by b (z ∷ xs)) (z ∷ xs)) (runs_by b (drop (run_len_by b (z ∷ xs)) (z ∷ xs))) more
      ∙ ap (λ (rs : List (List X)). put_before b x rs ++ more) (sym (first_run b z xs))

module _ {X S : Type 0} (m : Merging) (header : X → Header) (begin : X → S) (grow : S → X → S) where
  abbrev pub Differ : List X → List X → Type 0
  Differ xs ys = AllByRecursion (λ x. AllByRecursion (λ y. is_other_group m (header x) (header y) ≡ true) ys) xs

  pub spans_append : (xs ys : List X) → Differ xs ys → spans_of m header begin grow (xs ++ ys) ≡ spans_of m header begin grow xs ++ spans_of m header begin grow ys
  spans_append xs ys differ =
      ap (λ gs. made_of_each begin grow (flat_map (runs_in_group m header) gs)) (runs_append (λ x y. is_other_group m (header x) (header y)) xs ys differ)
      ∙ ap (made_of_each begin grow) (flat_map-append (runs_in_group m header) (groups_of m header xs) (groups_of m header ys))
      ∙ flat_map-append (made_of begin grow) (span_runs m header xs) (span_runs m header ys)

  module _ {N : Type 0} {ncmp : N → N → Ordering} (own : N → X → Bool) (part : N → List X) (owned : (n : N) → AllByRecursion (λ x. own n x ≡ true) (part n))
      (apart : (k n : N) (x y : X) → ncmp k n ≡ Less → own k x ≡ true → own n y ≡ true → is_other_group m (header x) (header y) ≡ true) where
    all_other : (n : N) (x : X) → own n x ≡ true → (names : List N) → AllByRecursion (λ k. ncmp n k ≡ Less) names → AllByRecursion (λ y. is_other_group m (header x) (header y) ≡ true) (flat_map part names)
    all_other n x o [] all = tt
    all_other n x o (k ∷ names) all =
        all_append (λ y. is_other_group m (header x) (header y) ≡ true) (part k) (flat_map part names)
        (all_weaker (λ y. own k y ≡ true) (λ y. is_other_group m (header x) (header y) ≡ true) (λ y p. apart n k x y all.0 o p) (part k) (owned k))
        (all_other n x o names all.1)

    -- the spans of rows of one owner behind those of another
    pub spans_parts : (names : List N) → IsStrictlySortedBy ncmp names → spans_of m header begin grow (flat_map part names) ≡ flat_map (λ n. spans_of m header begin grow (part n)) names
    unfolding IsStrictlySortedBy
    spans_parts [] up = refl
    spans_parts (n ∷ names) up =
        spans_append (part n) (flat_map part names)
        (all_weaker (λ x. own n x ≡ true) (λ x. AllByRecursion (λ y. is_other_group m (header x) (header y) ≡ true) (flat_map part names)) (λ x o. all_other n x o names up.0) (part n) (owned n))
        ∙ ap (λ ss. spans_of m header begin grow (part n) ++ ss) (spans_parts names up.1)

-- what holds of all rows holds of those of each run
module _ {X : Type 0} (P : X → Type 0) where
  abbrev AllRuns : List (List X) → Type 0
  AllRuns runs = AllByRecursion (λ run. AllByRecursion P run) runs

  all_before : (t : X → Bool) (x : X) (runs : List (List X)) → P x → AllRuns runs → AllRuns (breaking.put_before t x runs)
  all_before t x [] p all = ((p, tt), tt)
  all_before t x ([] ∷ runs) p all = ((p, tt), all.1)
  all_before t x ((y ∷ run) ∷ runs) p all =
      elim (t y) as (λ c. AllRuns (cond c ((x ∷ []) ∷ (y ∷ run) ∷ runs) ((x ∷ y ∷ run) ∷ runs))) [
        | true ↦ ((p, tt), all)
        | false ↦ ((p, all.0), all.1)
      ]

  all_after : (breaks : List X → X → Bool) (earlier xs : List X) → AllByRecursion P xs → AllRuns (runs_after breaks earlier xs)
  all_after breaks earlier [] all = tt
  all_after breaks earlier (x ∷ xs) all = all_before (breaks (earlier ++ x ∷ [])) x (runs_after breaks (earlier ++ x ∷ []) xs) all.0 (all_after breaks (earlier ++ x ∷ []) xs all.1)

  all_pair : (b : X → X → Bool) (x : X) (runs : List (List X)) → P x → AllRuns runs → AllRuns (put_before b x runs)
  all_pair b x [] p all = ((p, tt), tt)
  all_pair b x ([] ∷ runs) p all = ((p, tt), all.1)
  all_pair b x ((y ∷ run) ∷ runs) p all =
      elim (b x y) as (λ c. AllRuns (cond c ((x ∷ []) ∷ (y ∷ run) ∷ runs) ((x ∷ y ∷ run) ∷ runs))) [
        | true ↦ ((p, tt), all)
        | false ↦ ((p, all.0), all.1)
      ]

  all_by : (b : X → X → Bool) (xs : List X) → AllByRecursion P xs → AllRuns (runs_by b xs)
  all_by b [] all = tt
  all_by b (x ∷ xs) all = all_pair b x (runs_by b xs) all.0 (all_by b xs all.1)

  all_in_groups : (m : Merging) (header : X → Header) (groups : List (List X)) → AllRuns groups → AllRuns (flat_map (runs_in_group m header) groups)
  all_in_groups m header [] all = tt
  all_in_groups m header (group ∷ groups) all =
      all_append (λ run. AllByRecursion P run) (runs_in_group m header group) (flat_map (runs_in_group m header) groups)
      (all_after (λ earlier x. breaks m (map header earlier) (header x)) [] group all.0) (all_in_groups m header groups all.1)

  pub all_span_runs : (m : Merging) (header : X → Header) (xs : List X) → AllByRecursion P xs → AllRuns (span_runs m header xs)
  all_span_runs m header xs all = all_in_groups m header (groups_of m header xs) (all_by (λ x y. is_other_group m (header x) (header y)) xs all)

  -- what a run's first item begins with, and each further one keeps, holds of what is made of it
  module _ {S : Type 0} (Q : S → Type 0) (begin : X → S) (grow : S → X → S) (begins : (x : X) → P x → Q (begin x)) (grows : (s : S) (x : X) → Q s → P x → Q (grow s x)) where
    kept : (s : S) (xs : List X) → Q s → AllByRecursion P xs → Q (fold grow s xs)
    kept s [] q all = q
    kept s (x ∷ xs) q all = kept (grow s x) xs (grows s x q all.0) all.1

    pub all_made : (runs : List (List X)) → AllRuns runs → AllByRecursion Q (made_of_each begin grow runs)
    all_made [] all = tt
    all_made ([] ∷ runs) all = all_made runs all.1
    all_made ((x ∷ run) ∷ runs) all = (kept (begin x) run (begins x all.0.0) all.0.1, all_made runs all.1)

    -- what is made by other steps is what a function makes of it
    module _ {T : Type 0} (first : X → T) (more : T → X → T) (f : S → T) (same : (x : X) → P x → first x ≡ f (begin x)) (same_more : (s : S) (x : X) → Q s → P x → more (f s) x ≡ f (grow s x)) where
      fold_related : (s : S) (xs : List X) → Q s → AllByRecursion P xs → fold more (f s) xs ≡ f (fold grow s xs)
      fold_related s [] q all = refl
      fold_related s (x ∷ xs) q all = ap (λ t. fold more t xs) (same_more s x q all.0) ∙ fold_related (grow s x) xs (grows s x q all.0) all.1

      pub made_related : (runs : List (List X)) → AllRuns runs → made_of_each first more runs ≡ map f (made_of_each begin grow runs)
      made_related [] all = refl
      made_related ([] ∷ runs) all = made_related runs all.1
      made_related ((x ∷ run) ∷ runs) all =
          (λ i. (ap (λ t. fold more t run) (same x all.0.0) ∙ fold_related (begin x) run (begins x all.0.0) all.0.1) i ∷ made_related runs all.1 i)

-- what holds of the rows that pass holds of them in order
module _ (Q : Row → Type 0) (test : Row → Bool) (holds : (row : Row) → test row ≡ true → Q row) where
  all_placed : (i : ℕ) (rows : List Row) → AllByRecursion (λ p. Q p.1) (placed_from test i rows)
  all_placed i [] = tt
  all_placed i (row ∷ rows) =
      elim (test row) as (λ b. test row ≡ b → AllByRecursion (λ (p : ℕ × Row). Q p.1) (cond b ((i, row) ∷ placed_from test (i + 1) rows) (placed_from test (i + 1) rows))) [
        | true ↦ λ e. (holds row e, all_placed (i + 1) rows)
        | false ↦ λ _. all_placed (i + 1) rows
      ] refl

  all_second : (ps : List (ℕ × Row)) → AllByRecursion (λ p. Q p.1) ps → AllByRecursion Q (map (λ p. p.1) ps)
  all_second [] all = tt
  all_second (p ∷ ps) all = (all.0, all_second ps all.1)

  pub all_rows_in_order : (m : Merging) (rows : List Row) → AllByRecursion Q (rows_in_order m test rows)
  all_rows_in_order m rows =
      all_second (in_order (placed_cmp m) [] (placed_from test 0 rows)) (all_in_order (placed_cmp m) (λ p. Q p.1) [] (placed_from test 0 rows) tt (all_placed 0 rows))
