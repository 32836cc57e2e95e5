use Rattle.std.proofs.Common.{◌∙◌, not, ◌&&◌, sym, ap}
use Rattle.std.specs.List.{list_any}
use Rattle.epochs.specs.Views.{values_of_line}
use Rattle.epoch_rules.specs.Neighbours.{is_at_key}
use Rattle.epoch_rules.specs.Outlines.{outlined}
use Rattle.epoch_rules.specs.Rules.{is_grantee}
use Rattle.epoch_rules.proofs.Containers.{user_there}
use Rattle.epoch_rules.proofs.Tidy.{tidy}
use Rattle.epoch_rules.proofs.OverlaySteps.{laid_tidy}
use Rattle.epoch_rules.proofs.outline.Outline.lacks_user.Goals as goal

pub returns-then-is_grant : goal.returns-then-is_grant
returns-then-is_grant c =
    let e = values_of_line c.args.line.now in
    let live = outlined c.args.self.now in
    let grant = sym c.is_grant.ensures ∙ c.if-is_grant.true in
    ap not
    (c.contains_key.ensures
    ∙ ap (λ k. list_any (is_at_key k) live) c.user_key.ensures
    ∙ user_there live c.requires.catalog (laid_tidy c.args.self.now.lines) e (tidy c.args.line.now))
    ∙ sym (ap (λ b. b && not (list_any (is_grantee e) live)) grant)
