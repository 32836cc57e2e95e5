use Rattle.std.proofs.Common.{◌∙◌, filter, Some, None, ap, subst}
use Rattle.epochs.specs.Views.{values_of_line}
use Rattle.epoch_rules.specs.KeyKinds.{key_rank}
use Rattle.epoch_rules.specs.Endings.{cut, is_between}
use Rattle.epoch_rules.specs.EndsOver.{has_end_over}
use Rattle.epoch_rules.specs.KeyOrder.{key_parts_of}
use Rattle.epoch_rules.specs.Neighbours.{is_at_key, IsFirstOf}
use Rattle.epoch_rules.specs.Outlines.{outlined}
use Rattle.epoch_rules.proofs.CutChildren.{none_cut, ends_cut}
use Rattle.epoch_rules.proofs.Nearest.{first_there}
use Rattle.epoch_rules.proofs.outline.Outline.cuts.Goals as goal

pub returns-in_default : goal.returns-in_default
returns-in_default c =
    let e = values_of_line c.args.line.now in
    let live = outlined c.args.self.now in
    let none = subst (λ k. IsFirstOf (filter (is_at_key k) live) None) c.key_view.ensures (subst (IsFirstOf (filter (is_at_key _) live)) c.in_default.is c.line_at.ensures) in
    none_cut live c.requires.catalog e (key_rank c.args.kind) c.args.first c.args.second none

pub returns : goal.returns
returns c =
    let e = values_of_line c.args.line.now in
    let live = outlined c.args.self.now in
    let held = has_end_over c.args.self.now.ends c.args.self.now.index.now.ends in
    let first = subst (λ k. IsFirstOf (filter (is_at_key k) live) (Some c.in-Some.old)) c.key_view.ensures c.in-Some.ensures in
    let o = first_there live c.requires.catalog.rises (is_at_key (key_parts_of e)) first.0 (values_of_line c.in-Some.old.now) first.1 in
    let low = c.cut-low.ensures ∙ ap (cut (key_rank c.args.kind) c.args.first c.args.second) c.new_end.ensures in
    let high = c.cut-high.ensures ∙ ap (cut (key_rank c.args.kind) c.args.first c.args.second) c.end.ensures in
    c.has_between.ensures
    ∙ (λ i. held (is_between (low i) (high i)))
    ∙ ends_cut live c.requires.catalog e (key_rank c.args.kind) c.args.first c.args.second held (values_of_line c.in-Some.old.now) c.requires.outline.ended o.0 o.1
