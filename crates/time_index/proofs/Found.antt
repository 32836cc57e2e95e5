-- What the selections find gives the same ranks as all rows do.
use Rattle.std.proofs.Common.{◌≡◌, ℕ, zero, suc, ◌+◌, ◌==◌, Bool, true, false, ◌||◌, ◌&&◌, inl, inr, cond, List, [], ◌∷◌, ◌++◌, refl, sym, ap, ◌∙◌, arith, Some, None, true≢false, add-zero, zero-add}
use Rattle.std.specs.List.{list_any, slice_get}
use Rattle.std.specs.Ordering.{is_eq, eq_by_cmp}
use Rattle.std.specs.BTreeMap.{BTreeMap}
use Rattle.std.specs.BTreeSet.{BTreeSet, IsFromIterResult}
use Rattle.std.proofs.lemmas.Bool.{and_parts, and_from, or_left, or_right, or_cases}
use Rattle.std.proofs.lemmas.Bool.Decides.{nat_tests}
use Rattle.std.proofs.lemmas.Cmp.{tied_itself}
use Rattle.std.proofs.lemmas.List.{append-nil}
use Rattle.std.proofs.lemmas.List.Folds.{list_any-append}
use Rattle.std.proofs.lemmas.Map.Lookups.{btree_set_from_contains}
use Rattle.std.proofs.lemmas.Map.Views.{tells_apart}
use Rattle.list_laws.specs.InOrder.{in_order}
use Rattle.list_laws.proofs.Keys.{any_in_order, same_in_order, sorted_in_order}
use Rattle.channel_globs.specs.declared.nslc.Nslc.{Nslc}
use Rattle.mseed_header.specs.declared.row.Row.{Row}
use Rattle.dataselect.specs.declared.order.Rank.{Rank}
use Rattle.dataselect.specs.declared.query.DataQuery.{DataQuery}
use Rattle.dataselect.specs.declared.query.Selection.{Selection}
use Rattle.dataselect.specs.Order.{rank_cmp, rank_at}
use Rattle.dataselect.specs.Query.{is_asked, is_selected}
use Rattle.dataselect.specs.Chosen.{passes, ranks_from, ranks_chosen}
use Rattle.dataselect.proofs.Ranks.{ranks_total, exact_ranks}
use Rattle.time_index.specs.declared.channels.Channel.{Channel}
use Rattle.time_index.specs.Index.{IsChannelIndex}
use Rattle.time_index.specs.Windows.{is_place_among, is_of_quality, passes_by, rank_if, ranks_at, ranks_found, window_places}
use Rattle.time_index.proofs.Covers.{covers}

-- one more rank goes to the end, or there is none
pub rank_in : (test : Row → Bool) (p : ℕ) (rows : List Row) (row : Row) (done more : List Rank) → slice_get rows p ≡ Some row → test row ≡ true → more ≡ done ++ rank_at p row ∷ []
    → more ≡ done ++ rank_if test p (slice_get rows p) []
rank_in test p rows row done more get t grown = grown ∙ sym (ap (λ o. done ++ rank_if test p o []) get ∙ ap (λ b. done ++ cond b (rank_at p row ∷ []) []) t)

pub rank_out : (test : Row → Bool) (p : ℕ) (rows : List Row) (row : Row) (done : List Rank) → slice_get rows p ≡ Some row → test row ≡ false
    → done ≡ done ++ rank_if test p (slice_get rows p) []
rank_out test p rows row done get t = sym (ap (λ o. done ++ rank_if test p o []) get ∙ ap (λ b. done ++ cond b (rank_at p row ∷ []) []) t ∙ append-nil done)

pub rank_none : (test : Row → Bool) (p : ℕ) (rows : List Row) (done : List Rank) → slice_get rows p ≡ None → done ≡ done ++ rank_if test p (slice_get rows p) []
rank_none test p rows done get = sym (ap (λ o. done ++ rank_if test p o []) get ∙ append-nil done)

abbrev has_rank : Rank → List Rank → Bool
has_rank q ranks = list_any (eq_by_cmp rank_cmp q) ranks

same_rank : (q r : Rank) → eq_by_cmp rank_cmp q r ≡ true → q ≡ r
same_rank q r h = tells_apart exact_ranks q r h

has_itself : (q r : Rank) → r ≡ q → eq_by_cmp rank_cmp q r ≡ true
has_itself q r e = ap (eq_by_cmp rank_cmp q) e ∙ ap is_eq (tied_itself ranks_total q)

eq_from : (a b : ℕ) → (a == b) ≡ true → a ≡ b
eq_from a b h = grind (arith, nat_tests)

-- q is the rank of a row that passes, n places from index i on
record IsRankFrom (test : Row → Bool) (i : ℕ) (rows : List Row) (q : Rank) : Type 0 where
  n : ℕ
  row : Row
  index : q.index ≡ i + n
  at : slice_get rows n ≡ Some row
  passes_is : test row ≡ true
  is : q ≡ rank_at (i + n) row

module _ (test : Row → Bool) (rows : List Row) (q : Rank) where
  from_at : (ps : List ℕ) → has_rank q (ranks_at test rows ps) ≡ true → IsRankFrom test 0 rows q
  from_at [] h = absurd (true≢false (sym h))
  from_at (p ∷ ps) h =
      elim (slice_get rows p) as (λ o. slice_get rows p ≡ o → has_rank q (rank_if test p o (ranks_at test rows ps)) ≡ true → IsRankFrom test 0 rows q) [
        | None ↦ λ _ k. from_at ps k
        | Some row ↦ λ e k.
            elim (test row) as (λ b. test row ≡ b → has_rank q (cond b (rank_at p row ∷ ranks_at test rows ps) (ranks_at test rows ps)) ≡ true → IsRankFrom test 0 rows q) [
              | true ↦ λ t l.
                  elim (eq_by_cmp rank_cmp q (rank_at p row)) as (λ b. eq_by_cmp rank_cmp q (rank_at p row) ≡ b → (b || has_rank q (ranks_at test rows ps)) ≡ true → IsRankFrom test 0 rows q) [
                    | true ↦ λ a _.
                        let is = same_rank q (rank_at p row) a in
                        record { n = p; row = row; index = ap (λ (r : Rank). r.index) is ∙ sym (zero-add p); at = e; passes_is = t; is = is ∙ ap (λ (k : ℕ). rank_at k row) (sym (zero-add p)) }
                    | false ↦ λ _ rest. from_at ps rest
                  ] refl l
              | false ↦ λ _ l. from_at ps l
            ] refl k
      ] refl h

  to_at : IsRankFrom test 0 rows q → (ps : List ℕ) → is_place_among q.index ps ≡ true → has_rank q (ranks_at test rows ps) ≡ true
  to_at c [] h = absurd (true≢false (sym h))
  to_at c (p ∷ ps) h =
      elim (p == q.index) as (λ b. (p == q.index) ≡ b → (b || is_place_among q.index ps) ≡ true → has_rank q (rank_if test p (slice_get rows p) (ranks_at test rows ps)) ≡ true) [
        | true ↦ λ e _.
            let here : p ≡ c.n = eq_from p q.index e ∙ c.index ∙ zero-add c.n in
            ap (λ o. has_rank q (rank_if test p o (ranks_at test rows ps))) (ap (slice_get rows) here ∙ c.at)
            ∙ ap (λ b. has_rank q (cond b (rank_at p c.row ∷ ranks_at test rows ps) (ranks_at test rows ps))) c.passes_is
            ∙ or_left (eq_by_cmp rank_cmp q (rank_at p c.row)) (has_rank q (ranks_at test rows ps))
            (has_itself q (rank_at p c.row) (ap (λ (k : ℕ). rank_at k c.row) (here ∙ sym (zero-add c.n)) ∙ sym c.is))
        | false ↦ λ _ rest.
            let later = to_at c ps rest in
            elim (slice_get rows p) as (λ o. has_rank q (rank_if test p o (ranks_at test rows ps)) ≡ true) [
              | None ↦ later
              | Some row ↦ elim (test row) as (λ b. has_rank q (cond b (rank_at p row ∷ ranks_at test rows ps) (ranks_at test rows ps)) ≡ true) [
                | true ↦ or_right (eq_by_cmp rank_cmp q (rank_at p row)) (has_rank q (ranks_at test rows ps)) later
                | false ↦ later
              ]
            ]
      ] refl h

module _ (seen : Row → Bool) (query : DataQuery) (q : Rank) where
  from_from : (i : ℕ) (rows : List Row) → has_rank q (ranks_from seen query i rows) ≡ true → IsRankFrom (passes seen query) i rows q
  from_from i [] h = absurd (true≢false (sym h))
  from_from i (row ∷ rows) h =
      let later : has_rank q (ranks_from seen query (i + 1) rows) ≡ true → IsRankFrom (passes seen query) i (row ∷ rows) q =
      λ k.
      let c = from_from (i + 1) rows k in
      let e : (i + 1) + c.n ≡ i + suc c.n = omega arith in
      record { n = suc c.n; row = c.row; index = c.index ∙ e; at = c.at; passes_is = c.passes_is; is = c.is ∙ ap (λ (k : ℕ). rank_at k c.row) e } in
      elim (passes seen query row) as (λ b. passes seen query row ≡ b → has_rank q (cond b (rank_at i row ∷ ranks_from seen query (i + 1) rows) (ranks_from seen query (i + 1) rows)) ≡ true → IsRankFrom (passes seen query) i (row ∷ rows) q) [
        | true ↦ λ t k.
            elim (eq_by_cmp rank_cmp q (rank_at i row)) as (λ b. eq_by_cmp rank_cmp q (rank_at i row) ≡ b → (b || has_rank q (ranks_from seen query (i + 1) rows)) ≡ true → IsRankFrom (passes seen query) i (row ∷ rows) q) [
              | true ↦ λ a _.
                  let is = same_rank q (rank_at i row) a in
                  record { n = 0; row = row; index = ap (λ (r : Rank). r.index) is ∙ sym (add-zero i); at = refl; passes_is = t; is = is ∙ ap (λ (k : ℕ). rank_at k row) (sym (add-zero i)) }
              | false ↦ λ _ rest. later rest
            ] refl k
        | false ↦ λ _ k. later k
      ] refl h

  to_from : (i n : ℕ) (rows : List Row) (row : Row) → slice_get rows n ≡ Some row → passes seen query row ≡ true → q ≡ rank_at (i + n) row → has_rank q (ranks_from seen query i rows) ≡ true
  to_from i n [] row at t is = (cc)
  to_from i zero (r ∷ rows) row at t is =
      let same : r ≡ row = (cc) in
      ap (λ b. has_rank q (cond b (rank_at i r ∷ ranks_from seen query (i + 1) rows) (ranks_from seen query (i + 1) rows))) (ap (passes seen query) same ∙ t)
      ∙ or_left (eq_by_cmp rank_cmp q (rank_at i r)) (has_rank q (ranks_from seen query (i + 1) rows))
      (has_itself q (rank_at i r) (ap (rank_at i) same ∙ ap (λ (k : ℕ). rank_at k row) (sym (add-zero i)) ∙ sym is))
  to_from i (suc n) (r ∷ rows) row at t is =
      let e : i + suc n ≡ (i + 1) + n = omega arith in
      let later = to_from (i + 1) n rows row at t (is ∙ ap (λ (k : ℕ). rank_at k row) e) in
      elim (passes seen query r) as (λ b. has_rank q (cond b (rank_at i r ∷ ranks_from seen query (i + 1) rows) (ranks_from seen query (i + 1) rows)) ≡ true) [
        | true ↦ or_right (eq_by_cmp rank_cmp q (rank_at i r)) (has_rank q (ranks_from seen query (i + 1) rows)) later
        | false ↦ later
      ]

-- of some selections one asks for the row
abbrev passes_any : (Row → Bool) → DataQuery → List Selection → Row → Bool
passes_any seen query sels row = seen row && (is_of_quality query row.header && list_any (λ s. is_selected s row.header) sels)

any_is : (seen : Row → Bool) (query : DataQuery) (row : Row) → passes_any seen query query.selections row ≡ passes seen query row
unfolding is_asked
any_is seen query row = refl

-- the parts of what a row passes
record Passes (seen quality selected : Bool) : Type 0 where
  seen_is : seen ≡ true
  quality_is : quality ≡ true
  selected_is : selected ≡ true

parts_of : (a b c : Bool) → (a && (b && c)) ≡ true → Passes a b c
parts_of a b c h =
    let outer = and_parts a (b && c) h in
    let inner = and_parts b c outer.1 in
    record { seen_is = outer.0; quality_is = inner.0; selected_is = inner.1 }

of_parts : (a b c : Bool) → Passes a b c → (a && (b && c)) ≡ true
of_parts a b c h = and_from a (b && c) h.seen_is (and_from b c h.quality_is h.selected_is)

same_bool : (a b : Bool) → (a ≡ true → b ≡ true) → (b ≡ true → a ≡ true) → a ≡ b
same_bool true b f g = sym (f refl)
same_bool false true f g = g refl
same_bool false false f g = refl

with_test : (test more : Row → Bool) (i : ℕ) (rows : List Row) (q : Rank) → ((row : Row) → test row ≡ true → more row ≡ true) → IsRankFrom test i rows q → IsRankFrom more i rows q
with_test test more i rows q weaker c = record { n = c.n; row = c.row; index = c.index; at = c.at; passes_is = weaker c.row c.passes_is; is = c.is }

module _ (seen : Row → Bool) (query : DataQuery) (rows : List Row) (m : BTreeMap Nslc Channel) (q : Rank) where
  -- what the first selection asks for, and what the others do
  first_asks : (s : Selection) (sels : List Selection) (row : Row) → passes_by seen query s row ≡ true → passes_any seen query (s ∷ sels) row ≡ true
  first_asks s sels row h =
      let parts = parts_of (seen row) (is_of_quality query row.header) (is_selected s row.header) h in
      of_parts (seen row) (is_of_quality query row.header) (list_any (λ s. is_selected s row.header) (s ∷ sels))
      (record { seen_is = parts.seen_is; quality_is = parts.quality_is; selected_is = or_left (is_selected s row.header) (list_any (λ s. is_selected s row.header) sels) parts.selected_is })

  others_ask : (s : Selection) (sels : List Selection) (row : Row) → passes_any seen query sels row ≡ true → passes_any seen query (s ∷ sels) row ≡ true
  others_ask s sels row h =
      let parts = parts_of (seen row) (is_of_quality query row.header) (list_any (λ s. is_selected s row.header) sels) h in
      of_parts (seen row) (is_of_quality query row.header) (list_any (λ s. is_selected s row.header) (s ∷ sels))
      (record { seen_is = parts.seen_is; quality_is = parts.quality_is; selected_is = or_right (is_selected s row.header) (list_any (λ s. is_selected s row.header) sels) parts.selected_is })

  from_found : (sels : List Selection) → has_rank q (ranks_found seen query rows m sels) ≡ true → IsRankFrom (passes_any seen query sels) 0 rows q
  from_found [] h = absurd (true≢false (sym h))
  from_found (s ∷ sels) h =
      let here = ranks_at (passes_by seen query s) rows (window_places s m) in
      let later = ranks_found seen query rows m sels in
      elim (or_cases (has_rank q here) (has_rank q later) (sym (list_any-append (eq_by_cmp rank_cmp q) here later) ∙ h)) [
        | inl first ↦ with_test (passes_by seen query s) (passes_any seen query (s ∷ sels)) 0 rows q (first_asks s sels) (from_at (passes_by seen query s) rows q (window_places s m) first)
        | inr rest ↦ with_test (passes_any seen query sels) (passes_any seen query (s ∷ sels)) 0 rows q (others_ask s sels) (from_found sels rest)
      ]

  module _ (index : IsChannelIndex rows m) (n : ℕ) (row : Row) (at : slice_get rows n ≡ Some row) (is : q ≡ rank_at (0 + n) row) (place : q.index ≡ n)
      (seen_is : seen row ≡ true) (quality_is : is_of_quality query row.header ≡ true) where
    here_found : (s : Selection) → is_selected s row.header ≡ true → has_rank q (ranks_at (passes_by seen query s) rows (window_places s m)) ≡ true
    here_found s asked =
        to_at (passes_by seen query s) rows q
        (record {
          n = n;
          row = row;
          index = place ∙ sym (zero-add n);
          at = at;
          passes_is = of_parts (seen row) (is_of_quality query row.header) (is_selected s row.header) (record { seen_is = seen_is; quality_is = quality_is; selected_is = asked });
          is = is;
        })
        (window_places s m)
        (ap (λ (k : ℕ). is_place_among k (window_places s m)) place ∙ covers rows m index n row at s asked)

    to_found : (sels : List Selection) → list_any (λ s. is_selected s row.header) sels ≡ true → has_rank q (ranks_found seen query rows m sels) ≡ true
    to_found [] h = absurd (true≢false (sym h))
    to_found (s ∷ sels) h =
        let here = ranks_at (passes_by seen query s) rows (window_places s m) in
        let later = ranks_found seen query rows m sels in
        list_any-append (eq_by_cmp rank_cmp q) here later
        ∙ elim (or_cases (is_selected s row.header) (list_any (λ s. is_selected s row.header) sels) h) [
          | inl first ↦ or_left (has_rank q here) (has_rank q later) (here_found s first)
          | inr rest ↦ or_right (has_rank q here) (has_rank q later) (to_found sels rest)
        ]

-- what the selections find is what a walk over all rows finds
pub found_all : (seen : Row → Bool) (query : DataQuery) (rows : List Row) (m : BTreeMap Nslc Channel) → IsChannelIndex rows m
    → in_order rank_cmp [] (ranks_found seen query rows m query.selections) ≡ ranks_chosen seen query rows
found_all seen query rows m index =
    same_in_order ranks_total exact_ranks (ranks_found seen query rows m query.selections) (ranks_from seen query 0 rows) (λ q.
    same_bool (has_rank q (ranks_found seen query rows m query.selections)) (has_rank q (ranks_from seen query 0 rows))
    (λ h. let c = from_found seen query rows m q query.selections h in to_from seen query q 0 c.n rows c.row c.at (sym (any_is seen query c.row) ∙ c.passes_is) c.is)
    (λ h.
    let c = from_from seen query q 0 rows h in
    let parts = parts_of (seen c.row) (is_of_quality query c.row.header) (list_any (λ s. is_selected s c.row.header) query.selections) (any_is seen query c.row ∙ c.passes_is) in
    to_found seen query rows m q index c.n c.row c.at c.is (c.index ∙ zero-add c.n) parts.seen_is parts.quality_is query.selections parts.selected_is))

-- a set that was collected has its keys in order
pub collected : (ranks : List Rank) (set : BTreeSet Rank) → IsFromIterResult rank_cmp ranks set → set.keys ≡ in_order rank_cmp [] ranks
collected ranks set made =
    btree_set_from_contains ranks_total set (record { keys = in_order rank_cmp [] ranks }) made.1 (sorted_in_order ranks_total ranks)
    (λ q. made.0 q ∙ sym (any_in_order exact_ranks (eq_by_cmp rank_cmp q) ranks)) exact_ranks
