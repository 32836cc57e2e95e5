-- The chosen rows: those that are seen and asked for, in order, each once.
use Rattle.std.specs.Prelude.{ℕ, ◌+◌, Bool, ◌&&◌, if◌then◌else◌, List, [], ◌∷◌, map, filter}
use Rattle.list_laws.specs.InOrder.{in_order}
use Rattle.mseed_header.specs.declared.row.Row.{Row}
use Rattle.dataselect.specs.declared.order.Rank.{Rank}
use Rattle.dataselect.specs.declared.query.DataQuery.{DataQuery}
use Rattle.dataselect.specs.Order.{rank_cmp, rank_at}
use Rattle.dataselect.specs.Query.{is_asked}

-- the row is seen and asked for
abbrev pub passes : (Row → Bool) → DataQuery → Row → Bool
passes seen query row = seen row && is_asked query row.header

-- of the rows those that a query asks for
abbrev pub asked_rows : DataQuery → List Row → List Row
asked_rows query rows = filter (λ row. is_asked query row.header) rows

-- the ranks of the rows that pass, as the rows stand from an index on
abbrev pub ranks_from : (Row → Bool) → DataQuery → ℕ → List Row → List Rank
ranks_from seen query index [] = []
ranks_from seen query index (row ∷ rows) =
    if passes seen query row then rank_at index row ∷ ranks_from seen query (index + 1) rows
    else ranks_from seen query (index + 1) rows

abbrev pub ranks_chosen : (Row → Bool) → DataQuery → List Row → List Rank
ranks_chosen seen query rows = in_order rank_cmp [] (ranks_from seen query 0 rows)

-- the places of the chosen rows, by name, quality letter, start, entry and place
abbrev pub chosen_places : (Row → Bool) → DataQuery → List Row → List ℕ
chosen_places seen query rows = map (λ rank. rank.index) (ranks_chosen seen query rows)
