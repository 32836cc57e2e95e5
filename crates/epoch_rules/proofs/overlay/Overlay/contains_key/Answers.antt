use Rattle.std.proofs.Common.{◌∙◌}
use Rattle.epoch_rules.specs.KeyViews.{parts_of_view}
use Rattle.epoch_rules.specs.Neighbours.{is_at_key}
use Rattle.epoch_rules.specs.Overlays.{overlaid}
use Rattle.epoch_rules.proofs.NextTo.{some_first}
use Rattle.epoch_rules.proofs.overlay.Overlay.contains_key.Goals as goal

pub returns : goal.returns
returns c = c.is_some.ensures ∙ some_first (is_at_key (parts_of_view c.args.key)) (overlaid c.args.self.now) c.line_at.result c.line_at.ensures
