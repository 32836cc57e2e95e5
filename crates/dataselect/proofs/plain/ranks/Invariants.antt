use Rattle.std.proofs.Common.{◌≡◌, drop}
use Rattle.dataselect.specs.Order.{rank_cmp}
use Rattle.list_laws.specs.InOrder.{in_order}
use Rattle.dataselect.specs.Chosen.{ranks_from, ranks_chosen}
use Rattle.dataselect.proofs.plain.ranks.Given as goal

abbrev pub invariant-rows : goal.invariant-rows
invariant-rows g l = in_order rank_cmp l.ranks.keys (ranks_from (g.V.Sight.seen l.sight) l.query l.index (drop l.index l.rows)) ≡ ranks_chosen (g.V.Sight.seen l.sight) l.query l.rows
