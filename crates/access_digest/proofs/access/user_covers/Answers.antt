use Rattle.epoch_catalog.specs.declared.families.Family.TheVariants as family
use Rattle.epoch_catalog.specs.Families.{is_in}
use Rattle.access_digest.specs.Access.{covers}
use Rattle.access_digest.proofs.WideLines.{any_placed, any_written, covering_place}
use Rattle.access_digest.proofs.access.user_covers.Goals as goal

pub returns-then-some_covers : goal.returns-then-some_covers
returns-then-some_covers c =
    let row = c.args.row.now in
    any_written (is_in (family.GrantsOn c.as_slice-name.result row.header.name.network)) (λ e. covers c.args.user.now.name e row) _ c.args.catalog.now _ c.family.ensures c.some_covers.ensures c.if-some_covers.true

pub returns-else-some_covers : goal.returns-else-some_covers
returns-else-some_covers c =
    let row = c.args.row.now in
    any_placed _ _ (λ e. covers c.args.user.now.name e row) _ _ _ _ _ _ c.lines.ensures.lines c.family.ensures c.wide.ensures (λ line h. covering_place c.as_slice-name.result c.args.user.now.name c.as_slice-name.ensures row line h) c.some_covers.ensures c.covers_at.ensures c.if-some_covers.false
