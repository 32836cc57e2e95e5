use Rattle.epoch_catalog.specs.declared.families.Family.TheVariants as family
use Rattle.epoch_catalog.specs.Families.{is_in}
use Rattle.access_digest.specs.Access.{restricts}
use Rattle.access_digest.proofs.WideLines.{any_placed, any_written, restricting_place}
use Rattle.access_digest.proofs.access.is_restricted.Goals as goal

pub returns-then-some_restricts : goal.returns-then-some_restricts
returns-then-some_restricts c =
    let name = c.args.name.now in
    any_written (is_in (family.RestrictionsOn name.network)) (λ e. restricts e name) _ c.args.catalog.now _ c.family-written.ensures c.some_restricts.ensures c.if-some_restricts.true

pub returns-else-some_restricts : goal.returns-else-some_restricts
returns-else-some_restricts c =
    let name = c.args.name.now in
    any_placed _ _ (λ e. restricts e name) _ _ _ _ _ _ c.lines.ensures.lines c.family-written.ensures c.wide.ensures (λ line h. restricting_place name line h) c.some_restricts.ensures c.restricts_at.ensures c.if-some_restricts.false
