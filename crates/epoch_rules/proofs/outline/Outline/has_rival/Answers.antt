use Rattle.std.proofs.Common.{◌∙◌, ◌&&◌, filter, sym, ap, subst}
use Rattle.std.specs.List.{list_any}
use Rattle.epochs.specs.Views.{values_of_line}
use Rattle.epoch_rules.specs.Neighbours.{is_below_key, is_above_key, IsLastOf, IsFirstOf}
use Rattle.epoch_rules.specs.Outlines.{outlined}
use Rattle.epoch_rules.specs.Rules.{is_rival}
use Rattle.epoch_rules.proofs.FamilyKeys.{epoch_says}
use Rattle.epoch_rules.proofs.NearRivals.{near_rivals}
use Rattle.epoch_rules.proofs.Tidy.{tidy}
use Rattle.epoch_rules.proofs.OverlaySteps.{laid_tidy}
use Rattle.epoch_rules.proofs.outline.Outline.has_rival.Goals as goal

pub returns-then-is_epoch : goal.returns-then-is_epoch
returns-then-is_epoch c =
    let e = values_of_line c.args.line.now in
    let live = outlined c.args.self.now in
    let epoch = sym c.is_epoch.ensures ∙ c.if-is_epoch.true in
    let last = subst (λ k. IsLastOf (filter (is_below_key k) live) c.last_before.result) c.key_view-key.ensures c.last_before.ensures in
    let first = subst (λ k. IsFirstOf (filter (is_above_key k) live) c.first_after.result) c.key_view-key.ensures c.first_after.ensures in
    c.is_rival_among.ensures
    ∙ near_rivals live c.requires.catalog (laid_tidy c.args.self.now.lines) e (tidy c.args.line.now) epoch (epoch_says e epoch) c.last_before.result c.first_after.result last first
    ∙ sym (ap (λ b. b && list_any (is_rival e) live) epoch)
