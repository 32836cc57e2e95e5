use Rattle.std.proofs.Common.{◌≡◌, [], map, filter, drop}
use Rattle.std.specs.List.{AllByRecursion}
use Rattle.list_laws.specs.InOrder.{in_order}
use Rattle.epochs.specs.Views.{values_of_line}
use Rattle.event_text.specs.Events.{is_event_asked}
use Rattle.event_text.specs.Orders.{event_cmp}
use Rattle.event_text.specs.Ranks.{IsRank, line_of_rank}
use Rattle.event_text.proofs.ranking.ranks_in.Given as goal

-- the events that are left go in among those that have
abbrev pub invariant-lines : goal.invariant-lines
invariant-lines l = record {
  each : AllByRecursion (IsRank l.query.order) l.ranks.keys;
  ordered : in_order (event_cmp l.query.order) (map line_of_rank l.ranks.keys) (filter (is_event_asked l.query) (map values_of_line (drop l.line-index l.lines)))
      ≡ in_order (event_cmp l.query.order) [] (filter (is_event_asked l.query) (map values_of_line l.lines));
}
