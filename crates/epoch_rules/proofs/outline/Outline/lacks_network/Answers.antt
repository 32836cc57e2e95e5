use Rattle.std.proofs.Common.{◌∙◌, not, ◌&&◌, filter, sym, ap, subst}
use Rattle.std.specs.List.{list_any}
use Rattle.epochs.specs.Views.{values_of_line}
use Rattle.epoch_rules.specs.Neighbours.{is_up_to_key, IsLastOf}
use Rattle.epoch_rules.specs.Outlines.{outlined}
use Rattle.epoch_rules.specs.Rules.{holds_station}
use Rattle.epoch_rules.proofs.Containers.{near_network}
use Rattle.epoch_rules.proofs.Tidy.{tidy}
use Rattle.epoch_rules.proofs.OverlaySteps.{laid_tidy}
use Rattle.epoch_rules.proofs.outline.Outline.lacks_network.Goals as goal

pub returns-then-is_station : goal.returns-then-is_station
returns-then-is_station c =
    let e = values_of_line c.args.line.now in
    let live = outlined c.args.self.now in
    let station = sym c.is_station.ensures ∙ c.if-is_station.true in
    let last = subst (λ k. IsLastOf (filter (is_up_to_key k) live) c.last_up_to.result) c.network_key.ensures c.last_up_to.ensures in
    ap not
    (c.holds_station_there.ensures
    ∙ near_network live c.requires.catalog (laid_tidy c.args.self.now.lines) e (tidy c.args.line.now) station c.last_up_to.result last)
    ∙ sym (ap (λ b. b && not (list_any (holds_station e) live)) station)
