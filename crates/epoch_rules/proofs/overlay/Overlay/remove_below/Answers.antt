use Rattle.std.proofs.Common.{◌∙◌, ◌||◌, map, refl, sym, ap}
use Rattle.std.specs.List.{list_any}
use Rattle.std.specs.Ordering.{is_eq}
use Rattle.std.proofs.lemmas.Bool.{eqb-true}
use Rattle.epochs.specs.Views.{values_of_line}
use Rattle.epoch_rules.specs.KeyOrder.{key_parts_of, parts_cmp}
use Rattle.epoch_rules.specs.Overlays.{has_key}
use Rattle.epoch_rules.proofs.OverlaySteps.{is_view_of, key_inserted, left_more, none_left}
use Rattle.epoch_rules.proofs.overlay.Overlay.remove_below.Goals as goal

pub returns-then-is_empty-clause-left : goal.returns-then-is_empty-clause-left
returns-then-is_empty-clause-left c =
    let o = c.args.self.now in
    none_left o.gone o.base.now (values_of_line c.args.line.now) (eqb-true _ 0 (sym c.is_empty.ensures ∙ c.if-is_empty.true))

pub returns-clause-left : goal.returns-clause-left
returns-clause-left c =
    let o = c.args.self.now in
    let e = values_of_line c.args.line.now in
    left_more o.gone c.insert.new.self e (λ x.
    ap (list_any (is_view_of (key_parts_of x))) c.in_ok-insert.ensures.keys
    ∙ key_inserted _ (λ a b. refl) (key_parts_of x) o.gone.keys c.key_view.result
    ∙ ap (λ p. is_eq (parts_cmp (key_parts_of x) p) || has_key o.gone x) c.key_view.ensures) (map values_of_line o.base.now)
