use Rattle.epoch_catalog.specs.declared.families.Family.TheVariants as family
use Rattle.epoch_catalog.specs.Families.{is_in}
use Rattle.access_digest.specs.Access.{touches}
use Rattle.access_digest.proofs.WideLines.{any_placed, any_written, touching_place}
use Rattle.access_digest.proofs.access.is_touched_by_one.Goals as goal

pub returns-then-some_touches : goal.returns-then-some_touches
returns-then-some_touches c =
    let row = c.args.row.now in
    any_written (is_in (family.RestrictionsOn row.header.name.network)) (λ e. touches e row) _ c.args.catalog.now _ c.family.ensures c.some_touches.ensures c.if-some_touches.true

pub returns-else-some_touches : goal.returns-else-some_touches
returns-else-some_touches c =
    let row = c.args.row.now in
    any_placed _ _ (λ e. touches e row) _ _ _ _ _ _ c.lines.ensures.lines c.family.ensures c.wide.ensures (λ line h. touching_place row line h) c.some_touches.ensures c.touches_at.ensures c.if-some_touches.false
