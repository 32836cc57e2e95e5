use Rattle.std.proofs.Common.{sym, ◌∙◌}
use Rattle.access_digest.proofs.Isolation.{without_restrictions}
use Rattle.access_digest.proofs.access.is_touched.Goals as goal

pub returns-else-has_restrictions : goal.returns-else-has_restrictions
returns-else-has_restrictions c =
    c.if-has_restrictions.false ∙ sym (without_restrictions c.args.catalog.now c.args.row.now (sym c.has_restrictions.ensures ∙ c.if-has_restrictions.false))
