use Rattle.std.proofs.Common.{None}
use Rattle.station_text.proofs.Grouped.{group_grown}
use Rattle.station_text.proofs.groups.begin.Goals as goal

pub returns : goal.returns
returns c =
    group_grown c.args.groups.now c.insert.new.self c.args.place None c.in_ok-group.group c.args.selection.now c.requires.absent (c.in_ok-insert.ensures.updates.0) c.in_ok-group.ensures
