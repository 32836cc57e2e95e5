use Rattle.std.proofs.Common.{◌≡◌, map, take}
use Rattle.station_text.specs.Matched.{selection_at, on_network}
use Rattle.station_text.proofs.matched.on_network.Given as goal

abbrev pub invariant-selections : goal.invariant-selections
invariant-selections l = map selection_at l.found ≡ on_network l.network (take l.selection-index l.selections)
