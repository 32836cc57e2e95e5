use Rattle.std.proofs.Common.{rules, ◌≡◌, true, List, IfOk, subst}
use Rattle.availability.specs.Channels.{merges_as_shelves}
use Rattle.availability.specs.declared.span.TimeSpan.{TimeSpan}
use Rattle.availability.proofs.Told.{as_shelves, told}
use Rattle.availability.proofs.channels.spans_of_name.Goals as goal

pub returns-then-whole : goal.returns-then-whole
returns-then-whole g c =
    let q = c.args.query.now in
    let merges : merges_as_shelves q ≡ true = search rules in
    subst (λ (list : List TimeSpan). IfOk c.spans_told.result (λ spans. spans ≡ list))
    (told (g.V.Sight.seen c.args.sight.now) (g.V.Sight.touched c.args.sight.now) q (as_shelves q merges) c.args.name.now (c.whole-whole.ensures c.if-whole.true) (g.S.Shelf.rows c.args.shelf.now))
    c.spans_told.ensures
