use Rattle.std.proofs.Common.{◌≡◌, ◌∙◌, subst, IfOk, List}
use Rattle.coverage_report.specs.declared.stretch.Stretch.{Stretch}
use Rattle.coverage_report.proofs.Placed.{places_are}
use Rattle.coverage_report.proofs.rows.stretches_of.Goals as goal

pub returns : goal.returns
returns g c =
    subst (λ (keys : List Stretch). IfOk c.stretches_at.result (λ stretches. stretches.keys ≡ keys))
    (places_are (g.V.Sight.seen c.args.sight.now) c.args.first.micros c.args.size c.args.name.now (g.S.Shelf.rows c.args.shelf.now) c.as_slice.result.now (c.as_slice.ensures ∙ c.in_ok-places.ensures))
    c.stretches_at.ensures
