-- The spans of availability rest on the rows that are seen, and on which of them are touched.
use Rattle.std.proofs.Common.{◌≡◌, ◌∙◌, ◌&&◌, ◌||◌, ℕ, ◌+◌, ◌<◌, Bool, true, false, cond, List, [], ◌∷◌, ◌++◌, map, filter, refl, sym, ap, subst, arith, append_assoc, suc}
use Rattle.std.specs.List.{fold, AllByRecursion}
use Rattle.std.specs.Ordering.{nat_cmp, int_cmp, ordering_then}
use Rattle.std.specs.Str.{bytes_eq}
use Rattle.std.proofs.lemmas.Slice.Eq.{bytes_eq-Decides}
use Rattle.list_laws.specs.Breaks.{made_of_each}
use Rattle.list_laws.specs.InOrder.{in_order}
use Rattle.list_laws.proofs.Keys.{all_in_order}
use Rattle.mseed_header.specs.declared.row.Row.{Row}
use Rattle.dataselect.specs.Spans.{Merging, group_cmp, placed_cmp, placed_from, rows_in_order, span_runs}
use Rattle.dataselect.proofs.Fewer.{among, step, rises, same_order, in_order_mapped}
use Rattle.dataselect.proofs.Parts.{all_span_runs}
use Rattle.query_words.specs.declared.avail.AvailQuery.{AvailQuery}
use Rattle.availability.specs.Spans.{merging_of, is_matched, has_quality, is_asked, span_at, longer, spans_of}
use Rattle.availability.specs.declared.span.TimeSpan.{TimeSpan}
use Rattle.desk_words.specs.Visible.{is_among, all_seen}
use Rattle.desk_words.proofs.Through.{left_holds, right_holds}

-- ---- rows in order

abbrev Placed : Type 0
Placed = ℕ × Row

abbrev at_place : (ℕ → ℕ) → Placed → Placed
at_place g p = (g p.0, p.1)

placed_order : (g : ℕ → ℕ) (up : (i j : ℕ) → i < j → g i < g j) (m : Merging) (a b : Placed) → placed_cmp m (at_place g a) (at_place g b) ≡ placed_cmp m a b
placed_order g up m a b =
    ap
    (λ o. ordering_then (group_cmp m a.1.header b.1.header)
    (ordering_then (int_cmp a.1.header.start.micros b.1.header.start.micros)
    (ordering_then (nat_cmp a.1.entry b.1.entry) (ordering_then (nat_cmp a.1.place b.1.place) o))))
    (same_order g up a.0 b.0)

rows_moved : (g : ℕ → ℕ) (ps : List Placed) → map (λ p. p.1) (map (at_place g) ps) ≡ map (λ p. p.1) ps
rows_moved g [] = refl
rows_moved g (p ∷ ps) = λ i. p.1 ∷ rows_moved g ps i

-- rows that p passes, of which a test says what another one says
module _ (test other p : Row → Bool) (asked : (row : Row) → test row ≡ true → p row ≡ true) (alike : (row : Row) → p row ≡ true → test row ≡ other row) where
  not_asked : (row : Row) → p row ≡ false → test row ≡ false
  not_asked row e =
      elim (test row) as (λ b. test row ≡ b → b ≡ false) [
        | true ↦ λ h. absurd (let k = asked row h in (cc))
        | false ↦ λ _. refl
      ] refl

  placed_moved : (rows : List Row) (n k : ℕ) (g : ℕ → ℕ) → ((i : ℕ) → g (k + i) ≡ n + among p rows i) → placed_from test n rows ≡ map (at_place g) (placed_from other k (filter p rows))
  placed_moved [] n k g at = refl
  placed_moved (row ∷ rows) n k g at =
      elim (p row) as (λ b. p row ≡ b → ((i : ℕ) → g (k + i) ≡ n + step p b (among p rows) i) → placed_from test n (row ∷ rows) ≡ map (at_place g) (placed_from other k (cond b (row ∷ filter p rows) (filter p rows)))) [
        | true ↦ λ e at.
            let first : n ≡ g k = (let z : k + 0 ≡ k = omega arith in let w : n + 0 ≡ n = omega arith in sym w ∙ sym (at 0) ∙ ap g z) in
            let rest = placed_moved rows (n + 1) (k + 1) g (λ i. let a : (k + 1) + i ≡ k + suc i = omega arith in let b : n + suc (among p rows i) ≡ (n + 1) + among p rows i = omega arith in ap g a ∙ at (suc i) ∙ b) in
            elim (test row) as (λ b. cond b ((n, row) ∷ placed_from test (n + 1) rows) (placed_from test (n + 1) rows) ≡ map (at_place g) (cond b ((k, row) ∷ placed_from other (k + 1) (filter p rows)) (placed_from other (k + 1) (filter p rows)))) [
              | true ↦ (λ i. (first i, row) ∷ rest i)
              | false ↦ rest
            ]
            ∙ ap (λ b. map (at_place g) (cond b ((k, row) ∷ placed_from other (k + 1) (filter p rows)) (placed_from other (k + 1) (filter p rows)))) (alike row e)
        | false ↦ λ e at.
            let rest = placed_moved rows (n + 1) k g (λ i. let b : n + suc (among p rows i) ≡ (n + 1) + among p rows i = omega arith in at i ∙ b) in
            ap (λ b. cond b ((n, row) ∷ placed_from test (n + 1) rows) (placed_from test (n + 1) rows)) (not_asked row e) ∙ rest
      ] refl at

  rows_alike : (m : Merging) (rows : List Row) → rows_in_order m test rows ≡ rows_in_order m other (filter p rows)
  rows_alike m rows =
      let g = among p rows in
      ap (λ (ps : List Placed). map (λ p. p.1) (in_order (placed_cmp m) [] ps))
      (placed_moved rows 0 0 g (λ i. let a : 0 + i ≡ i = omega arith in let b : among p rows i ≡ 0 + among p rows i = omega arith in ap g a ∙ b))
      ∙ ap (λ (ps : List Placed). map (λ p. p.1) ps) (in_order_mapped (placed_cmp m) (at_place g) (placed_order g (rises p rows) m) [] (placed_from other 0 (filter p rows)))
      ∙ rows_moved g (in_order (placed_cmp m) [] (placed_from other 0 (filter p rows)))

-- ---- what touches

module _ (touched other : Row → Bool) (q : AvailQuery) where
  abbrev Same : Row → Type 0
  Same row = touched row ≡ other row

  abbrev begun : (Row → Bool) → Row → TimeSpan
  begun t row = span_at t q row

  fold_same : (s : TimeSpan) (xs : List Row) → AllByRecursion Same xs → fold (longer touched) s xs ≡ fold (longer other) s xs
  fold_same s [] all = refl
  fold_same s (x ∷ xs) all =
      ap (λ (b : Bool). fold (longer touched) (longer (λ _. b) s x) xs) all.0 ∙ fold_same (longer other s x) xs all.1

  made_same : (runs : List (List Row)) → AllByRecursion (λ run. AllByRecursion Same run) runs → made_of_each (begun touched) (longer touched) runs ≡ made_of_each (begun other) (longer other) runs
  made_same [] all = refl
  made_same ([] ∷ runs) all = made_same runs all.1
  made_same ((x ∷ run) ∷ runs) all =
      let first = ap (λ (b : Bool). fold (longer touched) (span_at (λ _. b) q x) run) all.0.0 ∙ fold_same (span_at other q x) run all.0.1 in
      λ i. first i ∷ made_same runs all.1 i

  all_placed : (test : Row → Bool) (n : ℕ) (rows : List Row) → AllByRecursion Same rows → AllByRecursion (λ p. Same p.1) (placed_from test n rows)
  all_placed test n [] all = tt
  all_placed test n (row ∷ rows) all =
      elim (test row) as (λ b. AllByRecursion (λ (p : Placed). Same p.1) (cond b ((n, row) ∷ placed_from test (n + 1) rows) (placed_from test (n + 1) rows))) [
        | true ↦ (all.0, all_placed test (n + 1) rows all.1)
        | false ↦ all_placed test (n + 1) rows all.1
      ]

  all_second : (ps : List Placed) → AllByRecursion (λ p. Same p.1) ps → AllByRecursion Same (map (λ p. p.1) ps)
  all_second [] all = tt
  all_second (p ∷ ps) all = (all.0, all_second ps all.1)

  -- spans of rows of which both say the same
  spans_same : (seen : Row → Bool) (rows : List Row) → AllByRecursion Same rows → spans_of seen touched q rows ≡ spans_of seen other q rows
  spans_same seen rows all =
      let m = merging_of q in
      let test = is_asked seen q in
      let ordered = all_second (in_order (placed_cmp m) [] (placed_from test 0 rows)) (all_in_order (placed_cmp m) (λ p. Same p.1) [] (placed_from test 0 rows) tt (all_placed test 0 rows all)) in
      made_same (span_runs m (λ (row : Row). row.header) (rows_in_order m test rows)) (all_span_runs Same m (λ (row : Row). row.header) (rows_in_order m test rows) ordered)

-- ---- rows that are among those that are touched

module _ (touched : Row → Bool) (same : (a b : Row) → bytes_eq a.image b.image ≡ true → touched a ≡ touched b) where
  untouched : (rows : List Row) (row : Row) → touched row ≡ false → is_among (filter touched rows) row ≡ false
  untouched [] row e = refl
  untouched (x ∷ rows) row e =
      let rest = untouched rows row e in
      elim (touched x) as (λ b. touched x ≡ b → is_among (cond b (x ∷ filter touched rows) (filter touched rows)) row ≡ false) [
        | true ↦ λ h.
            let apart : bytes_eq x.image row.image ≡ false = elim (bytes_eq x.image row.image) as (λ c. bytes_eq x.image row.image ≡ c → c ≡ false) [
              | true ↦ λ k. absurd (let r = same x row k in (cc))
              | false ↦ λ _. refl
            ] refl in
            (λ i. apart i || rest i)
        | false ↦ λ h. rest
      ] refl

  own_bytes : (row : Row) → bytes_eq row.image row.image ≡ true
  own_bytes row = (bytes_eq-Decides row.image row.image).1 refl

  or_true : (b : Bool) → (b || true) ≡ true
  or_true true = refl
  or_true false = refl

  is_there : (front rows : List Row) (row : Row) → touched row ≡ true → is_among (filter touched (front ++ row ∷ rows)) row ≡ true
  is_there [] rows row e =
      ap (λ b. is_among (cond b (row ∷ filter touched rows) (filter touched rows)) row) e
      ∙ ap (λ b. b || is_among (filter touched rows) row) (own_bytes row)
  is_there (x ∷ front) rows row e =
      let rest = is_there front rows row e in
      elim (touched x) as (λ b. is_among (cond b (x ∷ filter touched (front ++ row ∷ rows)) (filter touched (front ++ row ∷ rows))) row ≡ true) [
        | true ↦ ap (λ b. bytes_eq x.image row.image || b) rest ∙ or_true (bytes_eq x.image row.image)
        | false ↦ rest
      ]

  one_right : (front rows : List Row) (row : Row) → touched row ≡ is_among (filter touched (front ++ row ∷ rows)) row
  one_right front rows row =
      elim (touched row) as (λ b. touched row ≡ b → b ≡ is_among (filter touched (front ++ row ∷ rows)) row) [
        | true ↦ λ e. sym (is_there front rows row e)
        | false ↦ λ e. sym (untouched (front ++ row ∷ rows) row e)
      ] refl

  all_right : (front rows : List Row) → AllByRecursion (λ row. touched row ≡ is_among (filter touched (front ++ rows)) row) rows
  all_right front [] = tt
  all_right front (row ∷ rows) =
      (one_right front rows row, subst (λ (all : List Row). AllByRecursion (λ row. touched row ≡ is_among (filter touched all) row) rows) (append_assoc front (row ∷ []) rows) (all_right (front ++ row ∷ []) rows))

  -- the spans of the rows that are seen
  pub spans_alone : (seen : Row → Bool) (q : AvailQuery) (rows : List Row) → spans_of seen touched q rows ≡ spans_of all_seen (is_among (filter touched (filter seen rows))) q (filter seen rows)
  spans_alone seen q rows =
      ap (λ (ordered : List Row). made_of_each (λ row. span_at touched q row) (λ s row. longer touched s row) (span_runs (merging_of q) (λ row. row.header) ordered))
      (rows_alike (is_asked seen q) (is_asked all_seen q) seen
      (λ row h. left_holds (seen row) (has_quality q.qualities row.header.quality) (right_holds (is_matched q.selections row.header.name) _ h))
      (λ row h. λ i. is_matched q.selections row.header.name && (h i && has_quality q.qualities row.header.quality))
      (merging_of q) rows)
      ∙ spans_same touched (is_among (filter touched (filter seen rows))) q all_seen (filter seen rows) (all_right [] (filter seen rows))
