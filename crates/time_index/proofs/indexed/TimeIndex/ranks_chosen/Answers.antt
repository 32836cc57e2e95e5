use Rattle.std.proofs.Common.{◌≡◌, ◌∙◌, ap, [], List}
use Rattle.list_laws.specs.InOrder.{in_order}
use Rattle.mseed_header.specs.declared.row.Row.{Row}
use Rattle.dataselect.specs.Order.{rank_cmp}
use Rattle.time_index.specs.Windows.{ranks_found}
use Rattle.time_index.proofs.Found.{found_all}
use Rattle.time_index.proofs.indexed.TimeIndex.ranks_chosen.Goals as goal

pub returns-in-Some : goal.returns-in-Some
returns-in-Some g c =
    let seen = g.V.Sight.seen c.args.sight.now in
    let query = c.args.query.now in
    let rows = c.args.self.now.rows.items in
    let channels = c.args.self.now.channels in
    let found : c.in-Some.ranks ≡ ranks_found seen query c.deref.result.now channels query.selections = rw c.in-Some.is at c.in_ok-ranks.ensures.some in
    ap (in_order rank_cmp []) (found ∙ ap (λ (xs : List Row). ranks_found seen query xs channels query.selections) c.deref.ensures.value) ∙ found_all seen query rows channels c.args.self.now.index
