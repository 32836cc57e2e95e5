use Rattle.std.proofs.Common.{filter, sym, subst}
use Rattle.epoch_rules.specs.KeyViews.{parts_of_view}
use Rattle.epoch_rules.specs.Neighbours.{is_at_key, IsFirstOf}
use Rattle.epoch_rules.specs.Overlays.{overlaid}
use Rattle.epoch_rules.proofs.NextTo.{first_at}
use Rattle.epoch_rules.proofs.OverlaySteps.{laid_up}
use Rattle.epoch_rules.proofs.overlay.Overlay.line_at.Goals as goal

pub returns : goal.returns
returns c =
    let o = c.args.self.now in
    let k = parts_of_view c.args.key in
    subst (IsFirstOf (filter (is_at_key k) (overlaid o))) (sym c.at_key.ensures) (first_at k (overlaid o) (laid_up o c.requires) c.first_from.result c.first_from.ensures)
