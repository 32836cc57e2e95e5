-- The rows that are seen, by their places.
use Rattle.std.proofs.Common.{◌≡◌, ℕ, zero, suc, ◌+◌, Bool, true, false, List, [], ◌∷◌, ◌++◌, map, filter, drop, Some, cond, refl, sym, ap, ◌∙◌, arith, ℤ}
use Rattle.std.specs.BTreeSet.{insert_key}
use Rattle.std.specs.List.{flat_map, slice_get}
use Rattle.list_laws.specs.InOrder.{in_order}
use Rattle.channel_globs.specs.Names.{name_cmp}
use Rattle.channel_globs.specs.declared.nslc.Nslc.{Nslc}
use Rattle.mseed_header.specs.declared.row.Row.{Row}
use Rattle.dataselect.specs.MergedSpans.{has_name}
use Rattle.dataselect.specs.Places.{places_named}
use Rattle.dataselect.specs.Spans.{placed_from}
use Rattle.dataselect.proofs.Placed.{places_from}
use Rattle.coverage_report.specs.Stretches.{stretch_of, one_or_none, stretch_cmp, stretch_at, stretches_at, stretches_of}
use Rattle.coverage_report.specs.declared.stretch.Stretch.{Stretch}

row_dropped : (rows : List Row) (i : ℕ) (row : Row) → slice_get rows i ≡ Some row → drop i rows ≡ row ∷ drop (i + 1) rows
row_dropped [] i row h = absurd (cc)
row_dropped (x ∷ rows) zero row h = let same : x ≡ row = cc in ap (λ (r : Row). r ∷ rows) same
row_dropped (x ∷ rows) (suc i) row h = let e : suc i + 1 ≡ suc (i + 1) = omega arith in row_dropped rows i row h ∙ ap (λ (k : ℕ). row ∷ drop k (x ∷ rows)) (sym e)

module _ (seen : Row → Bool) where
  abbrev names_in : List Row → List Nslc
  names_in rows = map (λ row. row.header.name) (filter seen rows)

  -- the name of a row that is seen goes to its place, and that of another one doesn't
  pub name_seen : (rows : List Row) (i : ℕ) (row : Row) (keys more all : List Nslc) (b : Bool) → slice_get rows i ≡ Some row → b ≡ seen row → b ≡ true → more ≡ insert_key name_cmp keys row.header.name
      → in_order name_cmp keys (names_in (drop i rows)) ≡ all → in_order name_cmp more (names_in (drop (i + 1) rows)) ≡ all
  name_seen rows i row keys more all b at is sees grown before =
      let rest = filter seen (drop (i + 1) rows) in
      ap (λ (ks : List Nslc). in_order name_cmp ks (names_in (drop (i + 1) rows))) grown
      ∙ sym (ap (λ (rs : List Row). in_order name_cmp keys (names_in rs)) (row_dropped rows i row at)
      ∙ ap (λ b. in_order name_cmp keys (map (λ (r : Row). r.header.name) (cond b (row ∷ rest) rest))) (sym is ∙ sees))
      ∙ before

  pub name_passed : (rows : List Row) (i : ℕ) (row : Row) (keys all : List Nslc) (b : Bool) → slice_get rows i ≡ Some row → b ≡ seen row → b ≡ false
      → in_order name_cmp keys (names_in (drop i rows)) ≡ all → in_order name_cmp keys (names_in (drop (i + 1) rows)) ≡ all
  name_passed rows i row keys all b at is hidden before =
      let rest = filter seen (drop (i + 1) rows) in
      sym (ap (λ (rs : List Row). in_order name_cmp keys (names_in rs)) (row_dropped rows i row at)
      ∙ ap (λ b. in_order name_cmp keys (map (λ (r : Row). r.header.name) (cond b (row ∷ rest) rest))) (sym is ∙ hidden))
      ∙ before

  module _ (first : ℤ) (size : ℕ) (name : Nslc) (whole : List Row) where
    abbrev own : List Row → List Stretch
    own rows = flat_map (λ (row : Row). one_or_none (stretch_of first size row.header)) (filter (has_name name) rows)

    -- what the rows at the places of a name's rows cover
    at_places : (i : ℕ) (rows : List Row) → ((k : ℕ) → slice_get whole (i + k) ≡ slice_get rows k)
        → stretches_at seen first size whole (places_from name i rows) ≡ own (filter seen rows)
    at_places i [] at = refl
    at_places i (row ∷ rows) at =
        let next : (k : ℕ) → (i + 1) + k ≡ i + suc k = λ k. omega arith in
        let here : i ≡ i + 0 = omega arith in
        let rest = at_places (i + 1) rows (λ k. ap (slice_get whole) (next k) ∙ at (suc k)) in
        let stands : slice_get whole i ≡ Some row = ap (slice_get whole) here ∙ at 0 in
        let more = places_from name (i + 1) rows in
        let others = filter seen rows in
        elim (has_name name row) as (λ b. has_name name row ≡ b → stretches_at seen first size whole (map (λ (p : ℕ × Row). p.0) (cond b ((i, row) ∷ placed_from (has_name name) (i + 1) rows) (placed_from (has_name name) (i + 1) rows))) ≡ own (cond (seen row) (row ∷ others) others)) [
          | true ↦ λ e.
              ap (λ o. stretch_at seen first size o ++ stretches_at seen first size whole more) stands
              ∙ elim (seen row) as (λ b. cond b (one_or_none (stretch_of first size row.header)) [] ++ stretches_at seen first size whole more ≡ own (cond b (row ∷ others) others)) [
                | true ↦
                    ap (λ (ss : List Stretch). one_or_none (stretch_of first size row.header) ++ ss) rest
                    ∙ sym (ap (λ b. flat_map (λ (r : Row). one_or_none (stretch_of first size r.header)) (cond b (row ∷ filter (has_name name) others) (filter (has_name name) others))) e)
                | false ↦ rest
              ]
          | false ↦ λ e.
              elim (seen row) as (λ b. stretches_at seen first size whole more ≡ own (cond b (row ∷ others) others)) [
                | true ↦ rest ∙ sym (ap (λ b. flat_map (λ (r : Row). one_or_none (stretch_of first size r.header)) (cond b (row ∷ filter (has_name name) others) (filter (has_name name) others))) e)
                | false ↦ rest
              ]
        ] refl

    pub places_are : (places : List ℕ) → places ≡ places_named name whole → in_order stretch_cmp [] (stretches_at seen first size whole places) ≡ stretches_of (filter seen whole) first size name
    places_are places is =
        let same : (k : ℕ) → 0 + k ≡ k = λ k. omega arith in
        ap (λ (ps : List ℕ). in_order stretch_cmp [] (stretches_at seen first size whole ps)) is
        ∙ ap (in_order stretch_cmp []) (at_places 0 whole (λ k. ap (slice_get whole) (same k)))
