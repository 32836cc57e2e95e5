-- The rows at the places of ranks in order are the rows in order.
use Rattle.std.proofs.Common.{◌≡◌, ℕ, suc, ◌+◌, Bool, true, false, ◌&&◌, List, [], ◌∷◌, ◌++◌, map, Some, None, refl, sym, ap, ◌∙◌, arith, cond, nat_cmp}
use Rattle.std.specs.BTreeSet.{insert_key}
use Rattle.std.specs.List.{AllByRecursion, slice_get}
use Rattle.std.specs.Ordering.{int_cmp, ordering_then}
use Rattle.list_laws.specs.InOrder.{in_order}
use Rattle.list_laws.proofs.Keys.{all_in_order}
use Rattle.mseed_header.specs.declared.row.Row.{Row}
use Rattle.channel_globs.specs.declared.nslc.Nslc.{Nslc}
use Rattle.dataselect.specs.MergedSpans.{has_name}
use Rattle.dataselect.specs.Places.{places_named}
use Rattle.dataselect.specs.SpanOrder.{row_or_none}
use Rattle.dataselect.specs.Spans.{placed_cmp, placed_from, rows_in_order}
use Rattle.dataselect.proofs.Placed.{places_from}
use Rattle.dataselect.proofs.SpanRanks.{in_order_mapped}
use Rattle.query_words.specs.declared.avail.AvailQuery.{AvailQuery}
use Rattle.availability.specs.contracts.rank.RankOrd.TheImpl.{cmp-value as by_rank}
use Rattle.availability.specs.declared.rank.Rank.{Rank}
use Rattle.availability.specs.Ranks.{rank_cmp, rank_at, rank_placed, rank_if, ranks_of, ranks_at, rows_ranked}
use Rattle.availability.specs.Spans.{merging_of}
use Rattle.availability.proofs.GroupsAlike.{groups_alike}
use Rattle.availability.proofs.Orders.{group_same}

-- the derived order of ranks is that of the definitions
pub rank_same : by_rank.it ≡ rank_cmp
rank_same = λ i a b.
    ordering_then (group_same i a.group b.group)
    (ordering_then (int_cmp a.start.micros b.start.micros)
    (ordering_then (nat_cmp a.entry b.entry)
    (ordering_then (nat_cmp a.place b.place) (nat_cmp a.index b.index))))

-- a rank stands where its row does
ranks_stand : (q : AvailQuery) (a b : ℕ × Row) → placed_cmp (merging_of q) a b ≡ rank_cmp (rank_placed q a) (rank_placed q b)
ranks_stand q a b = λ i.
    ordering_then (sym (groups_alike q a.1.header b.1.header) i)
    (ordering_then (int_cmp a.1.header.start.micros b.1.header.start.micros)
    (ordering_then (nat_cmp a.1.entry b.1.entry)
    (ordering_then (nat_cmp a.1.place b.1.place) (nat_cmp a.0 b.0))))

-- the place of each is that of its row
all_placed : (test : Row → Bool) (whole : List Row) (i : ℕ) (rows : List Row) → ((k : ℕ) → slice_get whole (i + k) ≡ slice_get rows k)
    → AllByRecursion (λ p. slice_get whole p.0 ≡ Some p.1) (placed_from test i rows)
all_placed test whole i [] at = tt
all_placed test whole i (row ∷ rows) at =
    let next : (k : ℕ) → (i + 1) + k ≡ i + suc k = λ k. omega arith in
    let here : i ≡ i + 0 = omega arith in
    let rest = all_placed test whole (i + 1) rows (λ k. ap (slice_get whole) (next k) ∙ at (suc k)) in
    elim (test row) as (λ b. AllByRecursion (λ (p : ℕ × Row). slice_get whole p.0 ≡ Some p.1) (cond b ((i, row) ∷ placed_from test (i + 1) rows) (placed_from test (i + 1) rows))) [
      | true ↦ (ap (slice_get whole) here ∙ at 0, rest)
      | false ↦ rest
    ]

fetched : (q : AvailQuery) (rows : List Row) (ps : List (ℕ × Row)) → AllByRecursion (λ p. slice_get rows p.0 ≡ Some p.1) ps → rows_ranked rows (map (rank_placed q) ps) ≡ map (λ p. p.1) ps
fetched q rows [] all = refl
fetched q rows (p ∷ ps) all = (λ i. row_or_none (all.0 i) ++ fetched q rows ps all.1 i)

pub ranked_in_order : (test : Row → Bool) (q : AvailQuery) (rows : List Row) → rows_ranked rows (ranks_of test q rows) ≡ rows_in_order (merging_of q) test rows
ranked_in_order test q rows =
    let placed = placed_from test 0 rows in
    let same : (k : ℕ) → 0 + k ≡ k = λ k. omega arith in
    ap (rows_ranked rows) (sym (in_order_mapped (rank_placed q) (placed_cmp (merging_of q)) rank_cmp (ranks_stand q) [] placed))
    ∙ fetched q rows (in_order (placed_cmp (merging_of q)) [] placed)
    (all_in_order (placed_cmp (merging_of q)) (λ p. slice_get rows p.0 ≡ Some p.1) [] placed tt (all_placed test rows 0 rows (λ k. ap (slice_get rows) (same k))))

-- the ranks of the rows at the places of a name's rows are those of its rows
module _ (test : Row → Bool) (q : AvailQuery) (name : Nslc) (whole : List Row) where
  abbrev both : Row → Bool
  both row = has_name name row && test row

  at_places : (i : ℕ) (rows : List Row) → ((k : ℕ) → slice_get whole (i + k) ≡ slice_get rows k)
      → ranks_at test q whole (places_from name i rows) ≡ map (rank_placed q) (placed_from both i rows)
  at_places i [] at = refl
  at_places i (row ∷ rows) at =
      let next : (k : ℕ) → (i + 1) + k ≡ i + suc k = λ k. omega arith in
      let here : i ≡ i + 0 = omega arith in
      let rest = at_places (i + 1) rows (λ k. ap (slice_get whole) (next k) ∙ at (suc k)) in
      let stands : slice_get whole i ≡ Some row = ap (slice_get whole) here ∙ at 0 in
      elim (has_name name row) as (λ b. ranks_at test q whole (map (λ (p : ℕ × Row). p.0) (cond b ((i, row) ∷ placed_from (has_name name) (i + 1) rows) (placed_from (has_name name) (i + 1) rows))) ≡ map (rank_placed q) (cond (b && test row) ((i, row) ∷ placed_from both (i + 1) rows) (placed_from both (i + 1) rows))) [
        | true ↦
            ap (λ o. rank_if test q i o ++ ranks_at test q whole (places_from name (i + 1) rows)) stands
            ∙ elim (test row) as (λ b. cond b (rank_at q i row ∷ []) [] ++ ranks_at test q whole (places_from name (i + 1) rows) ≡ map (rank_placed q) (cond b ((i, row) ∷ placed_from both (i + 1) rows) (placed_from both (i + 1) rows))) [
              | true ↦ ap (λ (rs : List Rank). rank_at q i row ∷ rs) rest
              | false ↦ rest
            ]
        | false ↦ rest
      ]

  pub ranks_are : in_order rank_cmp [] (ranks_at test q whole (places_named name whole)) ≡ ranks_of both q whole
  ranks_are = let same : (k : ℕ) → 0 + k ≡ k = λ k. omega arith in ap (in_order rank_cmp []) (at_places 0 whole (λ k. ap (slice_get whole) (same k)))

-- the rank of the row at one place more goes to its place, or there is none
module _ (test : Row → Bool) (q : AvailQuery) (place : ℕ) (rows : List Row) (done : List Rank) where
  pub rank_in : (row : Row) (more : List Rank) → slice_get rows place ≡ Some row → test row ≡ true → more ≡ insert_key rank_cmp done (rank_at q place row)
      → more ≡ in_order rank_cmp done (rank_if test q place (slice_get rows place))
  rank_in row more at t grown =
      grown ∙ sym (ap (λ o. in_order rank_cmp done (rank_if test q place o)) at ∙ ap (λ b. in_order rank_cmp done (cond b (rank_at q place row ∷ []) [])) t)

  pub rank_out : (row : Row) → slice_get rows place ≡ Some row → test row ≡ false → done ≡ in_order rank_cmp done (rank_if test q place (slice_get rows place))
  rank_out row at t =
      sym (ap (λ o. in_order rank_cmp done (rank_if test q place o)) at ∙ ap (λ b. in_order rank_cmp done (cond b (rank_at q place row ∷ []) [])) t)

  pub rank_none : slice_get rows place ≡ None → done ≡ in_order rank_cmp done (rank_if test q place (slice_get rows place))
  rank_none at = sym (ap (λ o. in_order rank_cmp done (rank_if test q place o)) at)
