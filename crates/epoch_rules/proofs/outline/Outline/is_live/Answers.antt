use Rattle.std.proofs.Common.{◌∙◌, ap}
use Rattle.std.specs.List.{list_any}
use Rattle.epoch_rules.specs.Neighbours.{is_at_key}
use Rattle.epoch_rules.specs.Outlines.{outlined}
use Rattle.epoch_rules.proofs.outline.Outline.is_live.Goals as goal

pub returns : goal.returns
returns c = c.contains_key.ensures ∙ ap (λ k. list_any (is_at_key k) (outlined c.args.self.now)) c.key_view.ensures
