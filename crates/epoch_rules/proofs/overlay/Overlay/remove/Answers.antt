use Rattle.std.proofs.Common.{◌∙◌, ℕ, ◌-◌, length, map, if◌then◌else◌, refl, sym, ap, subst, arith}
use Rattle.std.specs.BTreeMap.{BTreeMap}
use Rattle.std.specs.Borrow.{Bor}
use Rattle.std.specs.List.{AllByRecursion}
use Rattle.std.specs.Map.{remove_entry}
use Rattle.std.specs.Ordering.{is_eq}
use Rattle.epochs.specs.Views.{values_of_line}
use Rattle.epochs.specs.declared.line.Line.{Line}
use Rattle.epoch_rules.specs.declared.key_order.KeyView.{KeyView}
use Rattle.epoch_rules.specs.declared.overlay.Overlay.{Overlay}
use Rattle.epoch_rules.specs.KeyOrder.{parts_cmp}
use Rattle.epoch_rules.specs.KeyViews.{parts_of_view}
use Rattle.epoch_rules.specs.Overlays.{overlaid}
use Rattle.epoch_rules.proofs.LinesOfMap.{IsKeyed, line_at, cut_keyed}
use Rattle.epoch_rules.proofs.OutlineSteps.{cut_lines}
use Rattle.epoch_rules.proofs.OverlaySteps.{cut_is, cut_laid, laid_up}
use Rattle.epoch_rules.proofs.WithLine.{length_others}
use Rattle.epoch_rules.proofs.overlay.Overlay.remove.Goals as goal

pub overflow_sub-self : goal.overflow_sub-self
overflow_sub-self c =
    let o = c.args.self.now in
    let e = values_of_line c.args.line.now in
    let count = length_others e (overlaid o) (laid_up o c.requires.overlay) in
    let there = ap {B = ℕ} (λ b. if b then 1 else 0) c.requires.there in
    let same = c.in_ok-remove_below.ensures.count in
    omega (arith, count, there, same, c.requires.overlay.counted)

pub returns-clause-lines : goal.returns-clause-lines
returns-clause-lines c =
    let o = c.args.self.now in
    let e = values_of_line c.args.line.now in
    let is = c.requires.overlay in
    let n : Overlay = record { base = c.remove_below.new.self.base; gone = c.remove_below.new.self.gone; put = c.remove.new.self; count = c.remove_below.new.self.count - 1 } in
    let same = ap (λ (m : BTreeMap KeyView (Bor Line)). m.entries) c.in_ok-remove_below.ensures.put in
    let put =
    ap (map line_at) c.remove.ensures.entries
    ∙ ap (λ es. map line_at (remove_entry (λ q. is_eq (parts_cmp (parts_of_view c.key_view.result) (parts_of_view q))) es)) same
    ∙ cut_lines _ (λ a b. refl) o.put.entries is.keyed c.key_view.result e c.key_view.ensures is.listed in
    cut_laid o n is e c.in_ok-remove_below.ensures.left put

pub returns-clause-overlay : goal.returns-clause-overlay
returns-clause-overlay c =
    let o = c.args.self.now in
    let e = values_of_line c.args.line.now in
    let is = c.requires.overlay in
    let n : Overlay = record { base = c.remove_below.new.self.base; gone = c.remove_below.new.self.gone; put = c.remove.new.self; count = c.remove_below.new.self.count - 1 } in
    let same = ap (λ (m : BTreeMap KeyView (Bor Line)). m.entries) c.in_ok-remove_below.ensures.put in
    let put =
    ap (map line_at) c.remove.ensures.entries
    ∙ ap (λ es. map line_at (remove_entry (λ q. is_eq (parts_cmp (parts_of_view c.key_view.result) (parts_of_view q))) es)) same
    ∙ cut_lines _ (λ a b. refl) o.put.entries is.keyed c.key_view.result e c.key_view.ensures is.listed in
    let all = ap length (cut_laid o n is e c.in_ok-remove_below.ensures.left put) in
    let count = length_others e (overlaid o) (laid_up o is) in
    let there = ap {B = ℕ} (λ b. if b then 1 else 0) c.requires.there in
    let kept = c.in_ok-remove_below.ensures.count in
    let keyed = subst (λ es. AllByRecursion IsKeyed es) (sym (c.remove.ensures.entries ∙ ap (λ es. remove_entry (λ q. is_eq (parts_cmp (parts_of_view c.key_view.result) (parts_of_view q))) es) same)) (cut_keyed _ o.put.entries is.keyed) in
    cut_is o n is e c.in_ok-remove_below.ensures.left put keyed c.in_ok-remove_below.ensures.base (omega (arith, all, count, there, kept, is.counted))
