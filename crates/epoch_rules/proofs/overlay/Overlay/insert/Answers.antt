use Rattle.std.proofs.Common.{◌∙◌, map, length, refl, sym, ap, subst, arith}
use Rattle.std.specs.List.{AllByRecursion}
use Rattle.std.specs.List.Sorted.{IsStrictlySortedBy}
use Rattle.list_laws.specs.InOrder.{in_order}
use Rattle.epochs.specs.Views.{values_of_line}
use Rattle.epoch_rules.specs.KeyOrder.{line_cmp}
use Rattle.epoch_rules.specs.MapLines.{lines_in}
use Rattle.epoch_rules.specs.Overlays.{left_below, overlaid}
use Rattle.epoch_rules.proofs.LinesOfMap.{IsKeyed, line_at, put_keyed}
use Rattle.epoch_rules.proofs.Lookups.{sorted_inserted}
use Rattle.epoch_rules.proofs.Orders.{lines_total}
use Rattle.epoch_rules.proofs.OutlineSteps.{put_lines}
use Rattle.epoch_rules.proofs.Overlaid.{Apart, apart_put, put_order}
use Rattle.epoch_rules.proofs.OverlaySteps.{absent_parts, below_up}
use Rattle.epoch_rules.proofs.WithLine.{length_put}
use Rattle.epoch_rules.proofs.overlay.Overlay.insert.Goals as goal

pub returns-clause-lines : goal.returns-clause-lines
returns-clause-lines c =
    let o = c.args.self.now in
    let e = values_of_line c.args.line.now in
    let is = c.requires.overlay in
    let none = absent_parts o is e c.requires.absent in
    let put = ap (map line_at) c.in_ok-insert.ensures.entries ∙ put_lines _ (λ a b. refl) o.put.entries is.keyed c.key_view.result c.args.line c.key_view.ensures none.1 in
    ap (in_order line_cmp (left_below o)) put ∙ put_order (left_below o) (lines_in o.put) (below_up o is) is.listed e

pub returns-clause-overlay : goal.returns-clause-overlay
returns-clause-overlay c =
    let o = c.args.self.now in
    let e = values_of_line c.args.line.now in
    let is = c.requires.overlay in
    let none = absent_parts o is e c.requires.absent in
    let put = ap (map line_at) c.in_ok-insert.ensures.entries ∙ put_lines _ (λ a b. refl) o.put.entries is.keyed c.key_view.result c.args.line c.key_view.ensures none.1 in
    let all = ap (in_order line_cmp (left_below o)) put ∙ put_order (left_below o) (lines_in o.put) (below_up o is) is.listed e in
    let long = ap length all ∙ length_put e (overlaid o) c.requires.absent in
    record {
      keyed = subst (λ l. AllByRecursion IsKeyed l) (sym c.in_ok-insert.ensures.entries) (put_keyed _ (λ a b. refl) o.put.entries c.key_view.result c.args.line is.keyed c.key_view.ensures);
      listed = subst (IsStrictlySortedBy line_cmp) (sym put) (sorted_inserted lines_total (lines_in o.put) e is.listed);
      based = is.based;
      apart = subst (Apart (left_below o)) (sym put) (apart_put (left_below o) (lines_in o.put) e is.apart none.0);
      counted = omega (arith, long, c.len-count.ensures.len);
    }
