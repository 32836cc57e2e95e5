-- One row more of the list is chosen or passed over.
use Rattle.std.proofs.Common.{◌≡◌, ℕ, ◌+◌, ◌<◌, Bool, true, false, List, length, get_or, drop, refl, sym, add-one, drop-cons}
use Rattle.std.specs.BTreeSet.{insert_key}
use Rattle.list_laws.specs.InOrder.{in_order}
use Rattle.mseed_header.specs.declared.row.Row.{Row}
use Rattle.dataselect.specs.declared.order.Rank.{Rank}
use Rattle.dataselect.specs.declared.query.DataQuery.{DataQuery}
use Rattle.dataselect.specs.Order.{rank_cmp, rank_at}
use Rattle.dataselect.specs.Chosen.{passes, ranks_from}

-- the row at an index is chosen
pub taken : (seen : Row → Bool) (query : DataQuery) (keys : List Rank) (i : ℕ) (rows : List Row) (row : Row) → i < length rows → row ≡ get_or rows i row
    → (passes seen query row) ≡ true
    → in_order rank_cmp (insert_key rank_cmp keys (rank_at i row)) (ranks_from seen query (i + 1) (drop (i + 1) rows)) ≡ in_order rank_cmp keys (ranks_from seen query i (drop i rows))
taken seen query keys i rows row h is test =
    sym (rw (drop-cons rows i row h, ← is, add-one i, test) refl)

pub skipped : (seen : Row → Bool) (query : DataQuery) (keys : List Rank) (i : ℕ) (rows : List Row) (row : Row) → i < length rows → row ≡ get_or rows i row
    → (passes seen query row) ≡ false
    → in_order rank_cmp keys (ranks_from seen query (i + 1) (drop (i + 1) rows)) ≡ in_order rank_cmp keys (ranks_from seen query i (drop i rows))
skipped seen query keys i rows row h is test =
    sym (rw (drop-cons rows i row h, ← is, add-one i, test) refl)
