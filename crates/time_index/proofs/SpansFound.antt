-- The places of a name's channel give the same ranks as all rows of the name do.
use Rattle.std.proofs.Common.{◌≡◌, ℕ, zero, suc, ◌+◌, ◌==◌, Bool, true, false, ◌||◌, cond, List, [], ◌∷◌, map, refl, sym, ap, ◌∙◌, arith, Option, Some, None, true≢false, add-zero, zero-add, eq-eqb}
use Rattle.std.specs.List.{list_any, slice_get}
use Rattle.std.specs.Ordering.{is_eq, eq_by_cmp}
use Rattle.std.specs.BTreeMap.{BTreeMap, get}
use Rattle.std.specs.BTreeSet.{insert_key}
use Rattle.std.proofs.lemmas.Bool.{or_left, or_right, and_from}
use Rattle.std.proofs.lemmas.Bool.Decides.{nat_tests}
use Rattle.std.proofs.lemmas.Cmp.{tied_itself}
use Rattle.list_laws.specs.InOrder.{in_order}
use Rattle.list_laws.proofs.Keys.{same_in_order}
use Rattle.channel_globs.specs.declared.nslc.Nslc.{Nslc}
use Rattle.channel_globs.specs.Names.{name_cmp}
use Rattle.channel_globs.proofs.Names.{names_total}
use Rattle.mseed_header.specs.declared.row.Row.{Row}
use Rattle.dataselect.proofs.Rises.{same_names}
use Rattle.dataselect.specs.MergedSpans.{has_name}
use Rattle.dataselect.specs.Segments.{is_same_name}
use Rattle.dataselect.specs.SpanOrder.{span_rank_cmp, span_rank_at, rank_placed, ranks_named}
use Rattle.dataselect.specs.Spans.{placed_from}
use Rattle.dataselect.specs.declared.span_order.SpanRank.{SpanRank}
use Rattle.dataselect.proofs.SpanRanks.{span_ranks_total, exact_span_ranks}
use Rattle.time_index.specs.Index.{is_there, IsChannelIndex}
use Rattle.time_index.specs.SpanRanks.{span_rank_if, span_ranks_at, places_of}
use Rattle.time_index.specs.Spots.{spot_cmp, spot_at, is_same, has}
use Rattle.time_index.specs.Windows.{is_place_among}
use Rattle.time_index.specs.declared.spot.Spot.{Spot}
use Rattle.time_index.specs.declared.channels.Channel.{Channel}
use Rattle.time_index.proofs.Sets.{itself, same_spot}

-- one more rank goes to its place, or there is none
pub span_rank_in : (test : Row → Bool) (p : ℕ) (rows : List Row) (row : Row) (done more : List SpanRank) → slice_get rows p ≡ Some row → test row ≡ true → more ≡ insert_key span_rank_cmp done (span_rank_at p row)
    → more ≡ in_order span_rank_cmp done (span_rank_if test p (slice_get rows p) [])
span_rank_in test p rows row done more get t grown = grown ∙ sym (ap (λ o. in_order span_rank_cmp done (span_rank_if test p o [])) get ∙ ap (λ b. in_order span_rank_cmp done (cond b (span_rank_at p row ∷ []) [])) t)

pub span_rank_out : (test : Row → Bool) (p : ℕ) (rows : List Row) (row : Row) (done : List SpanRank) → slice_get rows p ≡ Some row → test row ≡ false
    → done ≡ in_order span_rank_cmp done (span_rank_if test p (slice_get rows p) [])
span_rank_out test p rows row done get t = sym (ap (λ o. in_order span_rank_cmp done (span_rank_if test p o [])) get ∙ ap (λ b. in_order span_rank_cmp done (cond b (span_rank_at p row ∷ []) [])) t)

eq_from : (a b : ℕ) → (a == b) ≡ true → a ≡ b
eq_from a b h = grind (arith, nat_tests)

module _ (test : Row → Bool) (q : SpanRank) where
  abbrev is_it : SpanRank → Bool
  is_it = eq_by_cmp span_rank_cmp q

  abbrev has_rank : List SpanRank → Bool
  has_rank ranks = list_any is_it ranks

  abbrev ranks_from : ℕ → List Row → List SpanRank
  ranks_from i rows = map rank_placed (placed_from test i rows)

  -- the rank of a row that passes, n places from index i on
  record Ranked (i : ℕ) (rows : List Row) : Type 0 where
    n : ℕ
    row : Row
    at : slice_get rows n ≡ Some row
    passes : test row ≡ true
    is : is_it (span_rank_at (i + n) row) ≡ true

  -- it is among all of them
  among_all : (i n : ℕ) (rows : List Row) (row : Row) → slice_get rows n ≡ Some row → test row ≡ true → is_it (span_rank_at (i + n) row) ≡ true → has_rank (ranks_from i rows) ≡ true
  among_all i n [] row at t is = (cc)
  among_all i zero (r ∷ rows) row at t is =
      let same : r ≡ row = (cc) in
      let here : is_it (span_rank_at i r) ≡ true = ap (λ (x : Row). is_it (span_rank_at i x)) same ∙ ap (λ k. is_it (span_rank_at k row)) (sym (add-zero i)) ∙ is in
      ap (λ b. has_rank (map rank_placed (cond b ((i, r) ∷ placed_from test (i + 1) rows) (placed_from test (i + 1) rows)))) (ap test same ∙ t)
      ∙ or_left (is_it (span_rank_at i r)) (has_rank (ranks_from (i + 1) rows)) here
  among_all i (suc n) (r ∷ rows) row at t is =
      let e : i + suc n ≡ (i + 1) + n = omega arith in
      let later = among_all (i + 1) n rows row at t (ap (λ k. is_it (span_rank_at k row)) (sym e) ∙ is) in
      elim (test r) as (λ b. has_rank (map rank_placed (cond b ((i, r) ∷ placed_from test (i + 1) rows) (placed_from test (i + 1) rows))) ≡ true) [
        | true ↦ or_right (is_it (span_rank_at i r)) (has_rank (ranks_from (i + 1) rows)) later
        | false ↦ later
      ]

  moved : (i : ℕ) (r : Row) (rows : List Row) → Ranked (i + 1) rows → Ranked i (r ∷ rows)
  moved i r rows c =
      let e : (i + 1) + c.n ≡ i + suc c.n = omega arith in
      record { n = suc c.n; row = c.row; at = c.at; passes = c.passes; is = ap (λ k. is_it (span_rank_at k c.row)) (sym e) ∙ c.is }

  found : (i : ℕ) (rows : List Row) → has_rank (ranks_from i rows) ≡ true → Ranked i rows
  found i [] h = absurd (true≢false (sym h))
  found i (r ∷ rows) h =
      elim (test r) as (λ b. test r ≡ b → has_rank (map rank_placed (cond b ((i, r) ∷ placed_from test (i + 1) rows) (placed_from test (i + 1) rows))) ≡ true → Ranked i (r ∷ rows)) [
        | true ↦ λ t k.
            elim (is_it (span_rank_at i r)) as (λ b. is_it (span_rank_at i r) ≡ b → (b || has_rank (ranks_from (i + 1) rows)) ≡ true → Ranked i (r ∷ rows)) [
              | true ↦ λ a _. record { n = 0; row = r; at = refl; passes = t; is = ap (λ k. is_it (span_rank_at k r)) (add-zero i) ∙ a }
              | false ↦ λ _ rest. moved i r rows (found (i + 1) rows rest)
            ] refl k
        | false ↦ λ _ k. moved i r rows (found (i + 1) rows k)
      ] refl h

  -- what stands at some of the places stands among all
  some_of_all : (rows : List Row) (ps : List ℕ) → has_rank (span_ranks_at test rows ps) ≡ true → has_rank (ranks_from 0 rows) ≡ true
  some_of_all rows [] h = absurd (true≢false (sym h))
  some_of_all rows (p ∷ ps) h =
      elim (slice_get rows p) as (λ o. slice_get rows p ≡ o → has_rank (span_rank_if test p o (span_ranks_at test rows ps)) ≡ true → has_rank (ranks_from 0 rows) ≡ true) [
        | None ↦ λ _ k. some_of_all rows ps k
        | Some row ↦ λ at k.
            elim (test row) as (λ b. test row ≡ b → has_rank (cond b (span_rank_at p row ∷ span_ranks_at test rows ps) (span_ranks_at test rows ps)) ≡ true → has_rank (ranks_from 0 rows) ≡ true) [
              | true ↦ λ t l.
                  elim (is_it (span_rank_at p row)) as (λ b. is_it (span_rank_at p row) ≡ b → (b || has_rank (span_ranks_at test rows ps)) ≡ true → has_rank (ranks_from 0 rows) ≡ true) [
                    | true ↦ λ a _. among_all 0 p rows row at t (ap (λ k. is_it (span_rank_at k row)) (zero-add p) ∙ a)
                    | false ↦ λ _ rest. some_of_all rows ps rest
                  ] refl l
              | false ↦ λ _ l. some_of_all rows ps l
            ] refl k
      ] refl h

  -- what stands at a place that is among these is among theirs
  at_place : (rows : List Row) (p : ℕ) (row : Row) → slice_get rows p ≡ Some row → test row ≡ true → is_it (span_rank_at p row) ≡ true → (ps : List ℕ) → is_place_among p ps ≡ true
      → has_rank (span_ranks_at test rows ps) ≡ true
  at_place rows p row at t is [] h = absurd (true≢false (sym h))
  at_place rows p row at t is (k ∷ ps) h =
      elim (k == p) as (λ b. (k == p) ≡ b → (b || is_place_among p ps) ≡ true → has_rank (span_rank_if test k (slice_get rows k) (span_ranks_at test rows ps)) ≡ true) [
        | true ↦ λ e _.
            let here : k ≡ p = eq_from k p e in
            ap (λ o. has_rank (span_rank_if test k o (span_ranks_at test rows ps))) (ap (slice_get rows) here ∙ at)
            ∙ ap (λ b. has_rank (cond b (span_rank_at k row ∷ span_ranks_at test rows ps) (span_ranks_at test rows ps))) t
            ∙ or_left (is_it (span_rank_at k row)) (has_rank (span_ranks_at test rows ps)) (ap (λ n. is_it (span_rank_at n row)) here ∙ is)
        | false ↦ λ _ rest.
            let later = at_place rows p row at t is ps rest in
            elim (slice_get rows k) as (λ o. has_rank (span_rank_if test k o (span_ranks_at test rows ps)) ≡ true) [
              | None ↦ later
              | Some r ↦ elim (test r) as (λ b. has_rank (cond b (span_rank_at k r ∷ span_ranks_at test rows ps) (span_ranks_at test rows ps)) ≡ true) [
                | true ↦ or_right (is_it (span_rank_at k r)) (has_rank (span_ranks_at test rows ps)) later
                | false ↦ later
              ]
            ]
      ] refl h

same_bool : (a b : Bool) → (a ≡ true → b ≡ true) → (b ≡ true → a ≡ true) → a ≡ b
same_bool true b f g = sym (f refl)
same_bool false true f g = g refl
same_bool false false f g = refl

-- each row that passes has its place among these
abbrev pub Reach : (Row → Bool) → List Row → List ℕ → Type 0
Reach test rows ps = (p : ℕ) (row : Row) → slice_get rows p ≡ Some row → test row ≡ true → is_place_among p ps ≡ true

spans_found : (test : Row → Bool) (rows : List Row) (ps : List ℕ) → Reach test rows ps
    → in_order span_rank_cmp [] (span_ranks_at test rows ps) ≡ in_order span_rank_cmp [] (map rank_placed (placed_from test 0 rows))
spans_found test rows ps all =
    same_in_order span_ranks_total exact_span_ranks (span_ranks_at test rows ps) (map rank_placed (placed_from test 0 rows)) (λ q.
    same_bool (has_rank test q (span_ranks_at test rows ps)) (has_rank test q (ranks_from test q 0 rows))
    (some_of_all test q rows ps)
    (λ h.
    let c = found test q 0 rows h in
    at_place test q rows c.n c.row c.at c.passes (ap (λ k. is_it test q (span_rank_at k c.row)) (sym (zero-add c.n)) ∙ c.is) ps (all c.n c.row c.at c.passes)))

-- a spot's place is among those of its channel
among_places : (spot : Spot) (spots : List Spot) → list_any (eq_by_cmp spot_cmp spot) spots ≡ true → is_place_among spot.place (map (λ s. s.place) spots) ≡ true
among_places spot [] h = absurd (true≢false (sym h))
among_places spot (s ∷ spots) h =
    elim (eq_by_cmp spot_cmp spot s) as (λ b. eq_by_cmp spot_cmp spot s ≡ b → (b || list_any (eq_by_cmp spot_cmp spot) spots) ≡ true → ((s.place == spot.place) || is_place_among spot.place (map (λ s. s.place) spots)) ≡ true) [
      | true ↦ λ e _. or_left (s.place == spot.place) (is_place_among spot.place (map (λ (x : Spot). x.place) spots)) (eq-eqb s.place spot.place (ap (λ (x : Spot). x.place) (sym (same_spot spot s e))))
      | false ↦ λ _ rest. or_right (s.place == spot.place) (is_place_among spot.place (map (λ (x : Spot). x.place) spots)) (among_places spot spots rest)
    ] refl h

in_channel : (o : Option Channel) (spot : Spot) → has o spot ≡ true → is_place_among spot.place (places_of o) ≡ true
in_channel None spot h = absurd (true≢false (sym h))
in_channel (Some channel) spot h = among_places spot channel.spots.keys h

named_same : (a b : Nslc) → is_same_name a b ≡ true → is_same a b ≡ true
named_same a b h = ap (λ n. is_same n b) (same_names a b h) ∙ ap is_eq (tied_itself names_total b)

module _ (rows : List Row) (m : BTreeMap Nslc Channel) (index : IsChannelIndex rows m) (name : Nslc) where
  pub reached : Reach (has_name name) rows (places_of (get name_cmp m name))
  reached p row at named =
      in_channel (get name_cmp m name) (spot_at p row)
      (index.spots name (spot_at p row) ∙ ap (is_there name (spot_at p row)) at
      ∙ and_from (is_same row.header.name name) (eq_by_cmp spot_cmp (spot_at p row) (spot_at p row)) (named_same row.header.name name named) (itself (spot_at p row) (spot_at p row) refl))

  -- the ranks of the channel's rows are those of all rows of the name
  pub channel_ranks_are : in_order span_rank_cmp [] (span_ranks_at (has_name name) rows (places_of (get name_cmp m name))) ≡ ranks_named name rows
  channel_ranks_are = spans_found (has_name name) rows (places_of (get name_cmp m name)) reached
