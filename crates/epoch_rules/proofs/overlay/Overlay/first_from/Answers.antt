use Rattle.std.proofs.Common.{◌∙◌, filter, map, ap, sym, subst}
use Rattle.epochs.specs.Views.{values_of_line}
use Rattle.epoch_rules.specs.KeyViews.{parts_of_view}
use Rattle.epoch_rules.specs.Neighbours.{is_from_key, IsFirstOf}
use Rattle.epoch_rules.specs.Overlays.{overlaid}
use Rattle.epoch_rules.proofs.Cuts.{whole_rest}
use Rattle.epoch_rules.proofs.OverlaySteps.{first_laid, left_swapped}
use Rattle.epoch_rules.proofs.overlay.Overlay.first_from.Goals as goal

pub returns : goal.returns
returns c =
    let o = c.args.self.now in
    let test = is_from_key (parts_of_view c.args.key) in
    let left = subst (λ l. IsFirstOf l c.first_left.result) (left_swapped o.gone test _ (map values_of_line o.base.now) (ap (map values_of_line) (whole_rest c.count_below-count.result o.base.now) ∙ c.count_below-count.ensures.behind)) c.first_left.ensures in
    subst (IsFirstOf (filter test (overlaid o))) (sym c.earlier.ensures) (first_laid o c.requires test c.first_left.result c.first_from.result left c.first_from.ensures)
