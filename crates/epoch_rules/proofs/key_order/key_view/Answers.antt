use Rattle.std.proofs.Common.{[], ◌∙◌, pos, ap, sym}
use Rattle.epochs.specs.Views.{values_of_line}
use Rattle.epoch_rules.specs.KeyOrder.{key_parts_of}
use Rattle.epoch_rules.specs.KeyViews.{view_of}
use Rattle.epoch_rules.proofs.key_order.key_view.Goals as goal

pub returns-in-Cha : goal.returns-in-Cha
returns-in-Cha c =
    c.epoch-in-Cha.ensures
    ∙ (λ i. view_of 2 (c.as_slice-in-Cha.ensures.value i) (c.as_slice-in-Cha-2.ensures.value i) (c.as_slice-in-Cha-3.ensures.value i) (c.as_slice-in-Cha-4.ensures.value i) [] c.in-Cha.cha.times.start.micros)
    ∙ ap (λ l. key_parts_of (values_of_line l)) (sym c.in-Cha.is)

pub returns-in-Evt : goal.returns-in-Evt
returns-in-Evt c =
    c.named.ensures
    ∙ (λ i. view_of 3 (c.as_slice-in-Evt.ensures i) [] [] [] [] (pos 0))
    ∙ ap (λ l. key_parts_of (values_of_line l)) (sym c.in-Evt.is)
