use Rattle.std.proofs.Common.{◌∙◌, filter, if◌then◌else◌, ap, subst}
use Rattle.epochs.specs.Views.{values_of_line}
use Rattle.epoch_rules.specs.Neighbours.{is_at_key, IsFirstOf}
use Rattle.epoch_rules.specs.Outlines.{outlined}
use Rattle.epoch_rules.specs.Rules.{is_operator}
use Rattle.epoch_rules.proofs.Containers.{passes_at_key}
use Rattle.epoch_rules.proofs.outline.Outline.operators_replaced.Goals as goal

pub returns : goal.returns
returns c =
    let e = values_of_line c.args.line.now in
    let live = outlined c.args.self.now in
    let first = subst (λ k. IsFirstOf (filter (is_at_key k) live) c.line_at.result) c.key_view.ensures c.line_at.ensures in
    c.count_operator_there.ensures
    ∙ ap (λ b. if b then 1 else 0) (passes_at_key is_operator live c.requires.catalog.rises e c.line_at.result first)
