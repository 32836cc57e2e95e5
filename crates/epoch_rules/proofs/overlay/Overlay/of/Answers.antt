use Rattle.std.proofs.Common.{◌∙◌, length, sym, ap, subst}
use Rattle.std.specs.List.Sorted.{IsStrictlySortedBy}
use Rattle.epoch_rules.specs.KeyOrder.{line_cmp}
use Rattle.epoch_rules.proofs.Lookups.{empty_sorted}
use Rattle.epoch_rules.proofs.Orders.{lines_total}
use Rattle.epoch_rules.proofs.Overlaid.{ordered_again}
use Rattle.epoch_rules.proofs.OverlaySteps.{apart_none, mapped_long}
use Rattle.epoch_rules.proofs.overlay.Overlay.of.Goals as goal

pub returns-clause-lines : goal.returns-clause-lines
returns-clause-lines c =
    let listed = subst (IsStrictlySortedBy line_cmp) (sym c.in_ok-lines_by_key.ensures.lines) c.requires in
    ordered_again _ listed ∙ c.in_ok-lines_by_key.ensures.lines

pub returns-clause-overlay : goal.returns-clause-overlay
returns-clause-overlay c =
    let lines = c.in_ok-lines_by_key.ensures.lines in
    let listed = subst (IsStrictlySortedBy line_cmp) (sym lines) c.requires in
    record {
      keyed = c.in_ok-lines_by_key.ensures.keyed;
      listed = listed;
      based = empty_sorted lines_total;
      apart = apart_none _;
      counted = sym (ap length (ordered_again _ listed ∙ lines) ∙ mapped_long c.args.lines.now);
    }
