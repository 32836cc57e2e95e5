use Rattle.std.proofs.Common.{◌||◌, refl, ap, ◌∙◌}
use Rattle.std.specs.List.{list_any}
use Rattle.std.specs.Ordering.{is_eq}
use Rattle.epoch_rules.specs.KeyOrder.{parts_cmp, key_parts_of}
use Rattle.epoch_rules.specs.Overlays.{has_key}
use Rattle.epoch_rules.proofs.OverlaySteps.{is_view_of, key_inserted}
use Rattle.epoch_catalog.proofs.merging.find_one.Goals as goal

pub returns-in_ok-push-clause-keys : goal.returns-in_ok-push-clause-keys
returns-in_ok-push-clause-keys c = λ e.
    ap (list_any (is_view_of (key_parts_of e))) c.in_ok-insert.ensures.keys
    ∙ key_inserted _ (λ a b. refl) (key_parts_of e) c.args.keys.now.keys c.key_view.result
    ∙ ap (λ p. is_eq (parts_cmp (key_parts_of e) p) || has_key c.args.keys.now e) c.key_view.ensures

pub returns-else-branch-clause-keys : goal.returns-else-branch-clause-keys
returns-else-branch-clause-keys c = λ e.
    ap (list_any (is_view_of (key_parts_of e))) c.in_ok-insert.ensures.keys
    ∙ key_inserted _ (λ a b. refl) (key_parts_of e) c.args.keys.now.keys c.key_view.result
    ∙ ap (λ p. is_eq (parts_cmp (key_parts_of e) p) || has_key c.args.keys.now e) c.key_view.ensures
