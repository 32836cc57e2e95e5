use Rattle.std.proofs.Common.{rules, ◌≡◌, ◌∙◌, ◌&&◌, ◌++◌, ◌∷◌, [], false, cond, ap, subst, arith, length, length-append, List}
use Rattle.std.specs.Ordering.{eq_by_cmp}
use Rattle.mseed_header.specs.declared.row.Row.{Row}
use Rattle.time_index.specs.declared.spot.Spot.{Spot}
use Rattle.time_index.specs.Index.{IsChannelIndex}
use Rattle.time_index.specs.Spots.{spot_cmp, spot_at, is_same, has_spot}
use Rattle.time_index.proofs.Shrunk.{index_shrunk}
use Rattle.time_index.proofs.indexed.TimeIndex.drop_last.Goals as goal

pub invariant_of-self : goal.invariant_of-self
invariant_of-self c =
    let shelf = c.args.self.now in
    let rows = c.take_last-row.new.self.items in
    let row = c.take_last-row.result in
    let whole : shelf.rows.items ≡ rows ++ row ∷ [] = c.take_last-row.ensures.items in
    let at : c.spot_of-spot.result ≡ spot_at (length rows) row = search rules in
    record {
      few = (let fits = shelf.few in omega (arith, fits, ap length whole, length-append rows (row ∷ [])));
      index =
          index_shrunk rows shelf.channels c.remove_spot.new.channels row (subst (λ (rs : List Row). IsChannelIndex rs shelf.channels) whole shelf.index)
          (λ name spot. c.remove_spot.ensures.spots name spot ∙ ap (λ (s : Spot). cond (is_same row.header.name name && eq_by_cmp spot_cmp spot s) false (has_spot shelf.channels name spot)) at)
          c.remove_spot.ensures.longest;
    }
