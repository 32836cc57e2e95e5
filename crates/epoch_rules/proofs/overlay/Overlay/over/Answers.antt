use Rattle.std.proofs.Common.{◌∙◌, length, map, sym, ap, subst}
use Rattle.std.specs.List.{AllByRecursion}
use Rattle.std.specs.List.Sorted.{IsStrictlySortedBy}
use Rattle.list_laws.specs.InOrder.{in_order}
use Rattle.epochs.specs.Views.{values_of_line}
use Rattle.epoch_rules.specs.KeyOrder.{line_cmp}
use Rattle.epoch_rules.specs.Overlays.{left_of}
use Rattle.epoch_rules.proofs.LinesOfMap.{IsKeyed, line_at}
use Rattle.epoch_rules.proofs.Lookups.{empty_sorted}
use Rattle.epoch_rules.proofs.Orders.{lines_total}
use Rattle.epoch_rules.proofs.Overlaid.{Apart}
use Rattle.epoch_rules.proofs.OverlaySteps.{all_left, mapped_long}
use Rattle.epoch_rules.proofs.overlay.Overlay.over.Goals as goal

pub returns-clause-lines : goal.returns-clause-lines
returns-clause-lines c =
    let base = map values_of_line c.args.lines.now in
    ap (λ es. in_order line_cmp (left_of c.new.result base) (map line_at es)) c.new-2.ensures.empty ∙ all_left c.new.result c.new.ensures.empty base

pub returns-clause-overlay : goal.returns-clause-overlay
returns-clause-overlay c =
    let base = map values_of_line c.args.lines.now in
    let put = sym (ap (map line_at) c.new-2.ensures.empty) in
    let all = ap (λ es. in_order line_cmp (left_of c.new.result base) (map line_at es)) c.new-2.ensures.empty ∙ all_left c.new.result c.new.ensures.empty base in
    record {
      keyed = subst (λ es. AllByRecursion IsKeyed es) (sym c.new-2.ensures.empty) tt;
      listed = subst (IsStrictlySortedBy line_cmp) put (empty_sorted lines_total);
      based = c.requires;
      apart = subst (Apart (left_of c.new.result base)) put tt;
      counted = sym (ap length all ∙ mapped_long c.args.lines.now);
    }
