use Rattle.std.proofs.Common.{◌∙◌, filter, subst}
use Rattle.epoch_rules.specs.Neighbours.{is_from_key, IsFirstOf}
use Rattle.epoch_rules.specs.Outlines.{outlined}
use Rattle.epoch_rules.proofs.NearGrants.{near_grants}
use Rattle.epoch_rules.proofs.OverlaySteps.{laid_tidy}
use Rattle.epoch_rules.proofs.outline.Outline.has_grant.Goals as goal

pub returns : goal.returns
returns c =
    let live = outlined c.args.self.now in
    let first = subst (λ k. IsFirstOf (filter (is_from_key k) live) c.first_from.result) c.grants_key.ensures c.first_from.ensures in
    c.is_grant_there.ensures
    ∙ near_grants live c.requires.catalog (laid_tidy c.args.self.now.lines) c.args.user.now c.first_from.result first
