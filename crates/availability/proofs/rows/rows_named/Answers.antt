use Rattle.std.proofs.Common.{◌≡◌, ◌∙◌, ap, map, Bor, List, IfOk, subst, ℕ, []}
use Rattle.list_laws.specs.InOrder.{in_order}
use Rattle.mseed_header.specs.declared.row.Row.{Row}
use Rattle.availability.specs.Channels.{is_asked_of}
use Rattle.availability.specs.Ranks.{rank_cmp, ranks_at, rows_ranked}
use Rattle.availability.specs.Spans.{passes}
use Rattle.availability.proofs.Ranked.{ranked_in_order, ranks_are}
use Rattle.availability.proofs.rows.rows_named.Goals as goal

pub returns : goal.returns
returns g c =
    let held = g.S.Shelf.rows c.args.shelf.now in
    let q = c.args.query.now in
    let seen = g.V.Sight.seen c.args.sight.now in
    subst (λ (rows : List Row). IfOk c.rows_ranked.result (λ found. map {A = Bor Row} {B = Row} (λ r. r.now) found ≡ rows))
    (ap (rows_ranked held)
    (c.in_ok-ranks.ensures
    ∙ ap (λ (ps : List ℕ). in_order rank_cmp [] (ranks_at (passes seen q) q held ps)) (c.as_slice.ensures ∙ c.in_ok-places.ensures)
    ∙ ranks_are (passes seen q) q c.args.name.now held)
    ∙ ranked_in_order (is_asked_of seen q c.args.name.now) q held)
    c.rows_ranked.ensures
