-- A data body rests on the rows that are seen alone.
use Rattle.std.proofs.Common.{◌≡◌, ◌∙◌, ℕ, ◌+◌, Bool, true, false, List, [], ◌∷◌, refl, ap, filter, map, ◌&&◌, cond}
use Rattle.list_laws.specs.InOrder.{in_order}
use Rattle.mseed_header.specs.declared.row.Row.{Row}
use Rattle.dataselect.specs.declared.query.DataQuery.{DataQuery}
use Rattle.dataselect.specs.declared.order.Rank.{Rank}
use Rattle.dataselect.specs.Chosen.{ranks_from}
use Rattle.dataselect.specs.Order.{rank_cmp, rank_at}
use Rattle.dataselect.specs.Query.{is_asked}
use Rattle.dataselect.specs.Picked.{picked_of}
use Rattle.dataselect.specs.DataBody.{answer_of, body_or_empty}
use Rattle.dataselect.proofs.Fewer.{same_answer}
use Rattle.desk_words.specs.Visible.{all_seen}
use Rattle.desk_words.proofs.Through.{left_holds}

module _ (seen : Row → Bool) (query : DataQuery) where
  -- where all rows are seen, the rule passes none over
  ranks_step : (b : Bool) (index : ℕ) (row : Row) (rows : List Row) → seen row ≡ b → ((n : ℕ) → ranks_from seen query n (filter seen rows) ≡ ranks_from all_seen query n (filter seen rows))
      → ranks_from seen query index (cond b (row ∷ filter seen rows) (filter seen rows)) ≡ ranks_from all_seen query index (cond b (row ∷ filter seen rows) (filter seen rows))
  ranks_step false index row rows is more = more index
  ranks_step true index row rows is more =
      λ i. cond (is i && is_asked query row.header) (rank_at index row ∷ more (index + 1) i) (more (index + 1) i)

  ranks_alike : (index : ℕ) (rows : List Row) → ranks_from seen query index (filter seen rows) ≡ ranks_from all_seen query index (filter seen rows)
  ranks_alike index [] = refl
  ranks_alike index (row ∷ rows) = elim (seen row) as (λ b. seen row ≡ b → ranks_from seen query index (cond b (row ∷ filter seen rows) (filter seen rows)) ≡ ranks_from all_seen query index (cond b (row ∷ filter seen rows) (filter seen rows))) [
    | true ↦ λ is. ranks_step true index row rows is (λ n. ranks_alike n rows)
    | false ↦ λ is. ranks_step false index row rows is (λ n. ranks_alike n rows)
  ] refl

pub seen_alone : (seen : Row → Bool) (query : DataQuery) (max_bytes : ℕ) (rows : List Row) → answer_of seen query max_bytes rows ≡ answer_of all_seen query max_bytes (filter seen rows)
seen_alone seen query max_bytes rows =
    same_answer seen query max_bytes seen (λ row h. left_holds (seen row) (is_asked query row.header) h) rows
    ∙ ap (λ (ranks : List Rank). body_or_empty max_bytes (filter seen rows) (picked_of query (filter seen rows) (map (λ rank. rank.index) (in_order rank_cmp [] ranks)))) (ranks_alike seen query 0 rows)
