use Rattle.std.proofs.Common.{filter, map, sym, subst}
use Rattle.epochs.specs.Views.{values_of_line}
use Rattle.epoch_rules.specs.KeyViews.{parts_of_view}
use Rattle.epoch_rules.specs.Neighbours.{is_up_to_key, IsLastOf}
use Rattle.epoch_rules.specs.Overlays.{overlaid}
use Rattle.epoch_rules.proofs.OverlaySteps.{last_laid, left_swapped}
use Rattle.epoch_rules.proofs.overlay.Overlay.last_up_to.Goals as goal

pub returns : goal.returns
returns c =
    let o = c.args.self.now in
    let test = is_up_to_key (parts_of_view c.args.key) in
    let left = subst (λ l. IsLastOf l c.last_left.result) (left_swapped o.gone test _ (map values_of_line o.base.now) c.count_up_to-count.ensures.before) c.last_left.ensures in
    subst (IsLastOf (filter test (overlaid o))) (sym c.later.ensures) (last_laid o c.requires test c.last_left.result c.last_up_to.result left c.last_up_to.ensures)
