-- The places of the chosen rows: which they are, and in which order.
use Rattle.std.proofs.Common.{◌≡◌, ℕ, zero, suc, ◌+◌, ◌<◌, ◌==◌, Bool, true, false, cond, List, [], ◌∷◌, length, get_or, map, Some, refl, sym, ap, ◌∙◌, arith, eq-eqb, Ordering}
use Rattle.std.specs.Prelude.{Contains}
use Rattle.std.specs.List.{slice_get, list_any, AllByRecursion}
use Rattle.std.specs.List.Sorted.{IsStrictlySortedBy}
use Rattle.std.specs.declared.cmp.Ordering.TheVariants.{Less}
use Rattle.std.proofs.lemmas.Bool.{and_parts, and_from, or_left, or_right}
use Rattle.std.proofs.lemmas.Bool.Decides.{Decides-eqb}
use Rattle.std.proofs.lemmas.List.{length-map}
use Rattle.std.proofs.lemmas.List.Folds.{Any-from_list_any}
use Rattle.list_laws.proofs.Keys.{all_in_order, sorted_in_order, any_in_order}
use Rattle.mseed_header.specs.declared.row.Row.{Row}
use Rattle.dataselect.specs.declared.order.Rank.{Rank}
use Rattle.dataselect.specs.declared.query.DataQuery.{DataQuery}
use Rattle.dataselect.specs.Order.{rank_cmp, rank_at}
use Rattle.dataselect.specs.Query.{is_asked}
use Rattle.dataselect.specs.Chosen.{passes, ranks_from, ranks_chosen, chosen_places}
use Rattle.dataselect.specs.Law.{AreChosen}
use Rattle.dataselect.proofs.Asked.{asked_decides}
use Rattle.dataselect.proofs.Ranks.{ranks_total, exact_ranks}

-- the rank is that of a row that passes
pub record IsRanked (seen : Row → Bool) (query : DataQuery) (rows : List Row) (r : Rank) : Type 0 where
  pub row : Row
  pub stands : slice_get rows r.index ≡ Some row
  pub rank_is : r ≡ rank_at r.index row
  pub passes_is : passes seen query row ≡ true

all_ranked : (seen : Row → Bool) (query : DataQuery) (whole : List Row) (i : ℕ) (rows : List Row) → ((k : ℕ) → slice_get whole (i + k) ≡ slice_get rows k)
    → AllByRecursion (IsRanked seen query whole) (ranks_from seen query i rows)
all_ranked seen query whole i [] at = tt
all_ranked seen query whole i (row ∷ rows) at =
    let next : (k : ℕ) → (i + 1) + k ≡ i + suc k = λ k. omega arith in
    let here : i ≡ i + 0 = omega arith in
    let rest = all_ranked seen query whole (i + 1) rows (λ k. ap (slice_get whole) (next k) ∙ at (suc k)) in
    elim (passes seen query row) as (λ b. passes seen query row ≡ b → AllByRecursion (IsRanked seen query whole) (cond b (rank_at i row ∷ ranks_from seen query (i + 1) rows) (ranks_from seen query (i + 1) rows))) [
      | true ↦ λ e. (record { row = row; stands = ap (slice_get whole) here ∙ at 0; rank_is = refl; passes_is = e }, rest)
      | false ↦ λ e. rest
    ] refl

pub ranked : (seen : Row → Bool) (query : DataQuery) (rows : List Row) → AllByRecursion (IsRanked seen query rows) (ranks_chosen seen query rows)
ranked seen query rows =
    let same : (k : ℕ) → 0 + k ≡ k = λ k. omega arith in
    all_in_order rank_cmp (IsRanked seen query rows) [] (ranks_from seen query 0 rows) tt (all_ranked seen query rows 0 rows (λ k. ap (slice_get rows) (same k)))

-- what holds of each element holds of the one at a place
at_place : {X : Type 0} (P : X → Type 0) (xs : List X) (k : ℕ) (d : X) → AllByRecursion P xs → k < length xs → P (get_or xs k d)
at_place P [] k d all h = absurd (omega arith)
at_place P (x ∷ xs) zero d all h = all.0
at_place P (x ∷ xs) (suc k) d all h = at_place P xs k d all.1 (omega arith)

sorted_pair : {K : Type 0} (cmp : K → K → Ordering) (ks : List K) (j k : ℕ) (d e : K) → IsStrictlySortedBy cmp ks → j < k → k < length ks → cmp (get_or ks j d) (get_or ks k e) ≡ Less
unfolding IsStrictlySortedBy
sorted_pair cmp [] j k d e up lt within = absurd (omega arith)
sorted_pair cmp (x ∷ xs) j zero d e up lt within = absurd (omega arith)
sorted_pair cmp (x ∷ xs) zero (suc k) d e up lt within = at_place (λ y. cmp x y ≡ Less) xs k e up.0 (omega arith)
sorted_pair cmp (x ∷ xs) (suc j) (suc k) d e up lt within = sorted_pair cmp xs j k d e up.1 (omega arith) (omega arith)

get_or-index : (ranks : List Rank) (k n : ℕ) (d : Rank) → k < length ranks → get_or (map (λ r. r.index) ranks) k n ≡ (get_or ranks k d).index
get_or-index [] k n d h = absurd (omega arith)
get_or-index (r ∷ ranks) zero n d h = refl
get_or-index (r ∷ ranks) (suc k) n d h = get_or-index ranks k n d (omega arith)

-- a place among them is that of a rank
found_rank : (P : Rank → Type 0) (ranks : List Rank) (place : ℕ) → AllByRecursion P ranks → (k : ℕ) → k < length (map (λ r. r.index) ranks) → get_or (map (λ r. r.index) ranks) k place ≡ place
    → (r : Rank) × P r × (r.index ≡ place)
found_rank P [] place all k lt e = absurd (omega arith)
found_rank P (r ∷ ranks) place all zero lt e = (r, all.0, e)
found_rank P (r ∷ ranks) place all (suc k) lt e = found_rank P ranks place all.1 k (omega arith) e

-- the rank of a row that passes is there
there : (seen : Row → Bool) (query : DataQuery) (i : ℕ) (rows : List Row) (k place : ℕ) (row : Row) → slice_get rows k ≡ Some row → passes seen query row ≡ true → place ≡ i + k
    → list_any (λ r. r.index == place) (ranks_from seen query i rows) ≡ true
there seen query i [] k place row is pass at = (cc)
there seen query i (r ∷ rows) zero place row is pass at =
    let same : r ≡ row = cc in
    let test : (i == place) ≡ true = eq-eqb i place (omega arith) in
    let passed : passes seen query r ≡ true = ap (passes seen query) same ∙ pass in
    ap (λ (b : Bool). list_any (λ (q : Rank). q.index == place) (cond b (rank_at i r ∷ ranks_from seen query (i + 1) rows) (ranks_from seen query (i + 1) rows))) passed
    ∙ or_left (i == place) (list_any (λ (q : Rank). q.index == place) (ranks_from seen query (i + 1) rows)) test
there seen query i (r ∷ rows) (suc k) place row is pass at =
    let rest = there seen query (i + 1) rows k place row is pass (omega arith) in
    elim (passes seen query r) as (λ b. list_any (λ (q : Rank). q.index == place) (cond b (rank_at i r ∷ ranks_from seen query (i + 1) rows) (ranks_from seen query (i + 1) rows)) ≡ true) [
      | true ↦ or_right (i == place) (list_any (λ (q : Rank). q.index == place) (ranks_from seen query (i + 1) rows)) rest
      | false ↦ rest
    ]

in_place : (seen : Row → Bool) (query : DataQuery) (rows : List Row) (place : ℕ) (row : Row) → slice_get rows place ≡ Some row → passes seen query row ≡ true → Contains (chosen_places seen query rows) place
in_place seen query rows place row is pass =
    let test = λ (r : Rank). r.index == place in
    let ranks = ranks_chosen seen query rows in
    let here = any_in_order exact_ranks test (ranks_from seen query 0 rows) ∙ there seen query 0 rows place place row is pass (omega arith) in
    let found = Any-from_list_any test ranks here in
    let size : length (map (λ (r : Rank). r.index) ranks) ≡ length ranks = length-map ranks (λ (r : Rank). r.index) in
    let index : found.1.index ≡ place = (Decides-eqb found.1.index place).0 found.4 in
    (found.0, omega (arith, size, found.2), get_or-index ranks found.0 place found.1 found.2 ∙ ap (λ (r : Rank). r.index) found.3 ∙ index)

-- the rank of the row at a chosen place
rank_of_place : (seen : Row → Bool) (query : DataQuery) (rows : List Row) (places : List ℕ) (ranks : List Rank) (k : ℕ) (d : Rank) (row : Row)
    → get_or places k 0 ≡ (get_or ranks k d).index → slice_get rows (get_or places k 0) ≡ Some row → IsRanked seen query rows (get_or ranks k d)
    → rank_at (get_or places k 0) row ≡ get_or ranks k d
rank_of_place seen query rows places ranks k d row at is h =
    let same : Some row ≡ Some h.row = sym is ∙ ap (slice_get rows) at ∙ h.stands in
    let row_is : row ≡ h.row = cc in
    ap (λ (i : ℕ). rank_at i row) at ∙ ap (rank_at (get_or ranks k d).index) row_is ∙ sym h.rank_is

pub are_chosen : (seen : Row → Bool) (query : DataQuery) (rows : List Row) → AreChosen seen query rows (chosen_places seen query rows)
are_chosen seen query rows = record {
  ordered = λ j k lt within a b a_is b_is.
      let ranks = ranks_chosen seen query rows in
      let places = chosen_places seen query rows in
      let size : length places ≡ length ranks = length-map ranks (λ (r : Rank). r.index) in
      let d = rank_at 0 a in
      let first = at_place (IsRanked seen query rows) ranks j d (ranked seen query rows) (omega arith) in
      let second = at_place (IsRanked seen query rows) ranks k d (ranked seen query rows) (omega arith) in
      let one = rank_of_place seen query rows places ranks j d a (get_or-index ranks j 0 d (omega arith)) a_is first in
      let two = rank_of_place seen query rows places ranks k d b (get_or-index ranks k 0 d (omega arith)) b_is second in
      ap (λ (x : Rank). rank_cmp x (rank_at (get_or places k 0) b)) one ∙ ap (rank_cmp (get_or ranks j d)) two
      ∙ sorted_pair rank_cmp ranks j k d d (sorted_in_order ranks_total (ranks_from seen query 0 rows)) lt (omega arith);
  members = λ place. (
    λ h.
        let found = found_rank (IsRanked seen query rows) (ranks_chosen seen query rows) place (ranked seen query rows) h.0 h.1 h.2 in
        let r = found.1 in
        let parts = and_parts (seen r.row) (is_asked query r.row.header) r.passes_is in
        record { row = r.row; stands = ap (slice_get rows) (sym found.2) ∙ r.stands; sees = parts.0; asked = (asked_decides query r.row.header).0 parts.1 },
    λ h. in_place seen query rows place h.row h.stands (and_from (seen h.row) (is_asked query h.row.header) h.sees ((asked_decides query h.row.header).1 h.asked)),
  );
}
