-- Each chosen and each picked place is that of a row, and no more are picked than there are.
use Rattle.std.proofs.Common.{◌≡◌, ℕ, ◌+◌, ◌<◌, ◌≤◌, Bool, true, false, List, [], ◌∷◌, length, refl, sym, ap, arith, cond, subst, map}
use Rattle.std.proofs.lemmas.List.{length-map}
use Rattle.std.specs.List.{AllByRecursion}
use Rattle.list_laws.proofs.Keys.{all_in_order, length_in_order}
use Rattle.mseed_header.specs.declared.row.Row.{Row}
use Rattle.dataselect.specs.declared.order.Rank.{Rank}
use Rattle.dataselect.specs.declared.query.DataQuery.{DataQuery}
use Rattle.dataselect.specs.Order.{rank_cmp, rank_at}
use Rattle.dataselect.specs.Chosen.{passes, ranks_from, ranks_chosen, chosen_places}
use Rattle.dataselect.specs.Picked.{picked_places}
use Rattle.dataselect.proofs.Wholes.{all_picked, length_picked}

all_ranks : (seen : Row → Bool) (query : DataQuery) (n i : ℕ) (rows : List Row) → i + length rows ≤ n → AllByRecursion (λ r. r.index < n) (ranks_from seen query i rows)
all_ranks seen query n i [] h = tt
all_ranks seen query n i (row ∷ rows) h =
    let rest = all_ranks seen query n (i + 1) rows (omega arith) in
    elim (passes seen query row) as (λ b. AllByRecursion (λ (r : Rank). r.index < n) (cond b (rank_at i row ∷ ranks_from seen query (i + 1) rows) (ranks_from seen query (i + 1) rows))) [
      | true ↦ (omega arith, rest)
      | false ↦ rest
    ]

length_ranks : (seen : Row → Bool) (query : DataQuery) (i : ℕ) (rows : List Row) → length (ranks_from seen query i rows) ≤ length rows
length_ranks seen query i [] = omega arith
length_ranks seen query i (row ∷ rows) =
    let rest = length_ranks seen query (i + 1) rows in
    elim (passes seen query row) as (λ b. length (cond b (rank_at i row ∷ ranks_from seen query (i + 1) rows) (ranks_from seen query (i + 1) rows)) ≤ length (row ∷ rows)) [
      | true ↦ omega arith
      | false ↦ omega arith
    ]

all_mapped : (n : ℕ) (ranks : List Rank) → AllByRecursion (λ r. r.index < n) ranks → AllByRecursion (λ i. i < n) (map (λ r. r.index) ranks)
all_mapped n [] all = tt
all_mapped n (r ∷ ranks) all = (all.0, all_mapped n ranks all.1)

-- each chosen place is that of a row
pub inside_chosen : (seen : Row → Bool) (query : DataQuery) (rows : List Row) (places : List ℕ) → places ≡ chosen_places seen query rows → AllByRecursion (λ i. i < length rows) places
inside_chosen seen query rows places e =
    subst (λ (ps : List ℕ). AllByRecursion (λ i. i < length rows) ps) (sym e)
    (all_mapped (length rows) (ranks_chosen seen query rows) (all_in_order rank_cmp (λ r. r.index < length rows) [] (ranks_from seen query 0 rows) tt (all_ranks seen query (length rows) 0 rows (omega arith))))

-- each picked place is that of a row
pub inside : (seen : Row → Bool) (query : DataQuery) (rows : List Row) (places : List ℕ) → places ≡ picked_places seen query rows → AllByRecursion (λ i. i < length rows) places
inside seen query rows places e =
    subst (λ (ps : List ℕ). AllByRecursion (λ i. i < length rows) ps) (sym e) (all_picked (λ i. i < length rows) query rows (chosen_places seen query rows) (inside_chosen seen query rows (chosen_places seen query rows) refl))

-- no more rows are picked than there are
pub few : (seen : Row → Bool) (query : DataQuery) (rows : List Row) (places : List ℕ) → places ≡ picked_places seen query rows → length places ≤ length rows
few seen query rows places e =
    omega (arith, ap length e, length_picked query rows (chosen_places seen query rows), length-map (ranks_chosen seen query rows) (λ r. r.index), length_in_order rank_cmp [] (ranks_from seen query 0 rows), length_ranks seen query 0 rows)
