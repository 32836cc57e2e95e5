use Rattle.std.proofs.Common.{rules, sym, Some}
use Rattle.station_text.proofs.Grouped.{group_grown}
use Rattle.station_text.proofs.groups.add.Goals as goal

pub returns-in-Some : goal.returns-in-Some
returns-in-Some c =
    group_grown c.args.groups.now (c.get_mut.follows.lender c.add_to.new.group) c.args.place (Some c.in-Some.group.now) c.add_to.new.group c.args.selection.now (sym c.in-Some.ensures.value)
    (((c.get_mut.follows.holds c.add_to.new.group).3 (search rules)).0) c.in_ok-add_to.ensures
