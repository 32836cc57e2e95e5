use Rattle.std.proofs.Common.{◌≡◌, map, take}
use Rattle.station_text.specs.Matched.{selection_at, on_station}
use Rattle.station_text.proofs.matched.on_station.Given as goal

abbrev pub invariant-selections : goal.invariant-selections
invariant-selections l = map selection_at l.found ≡ on_station l.station (map selection_at (take l.selection-index l.selections))
