use Rattle.std.proofs.Common.{◌≡◌, filter, take}
use Rattle.station_text.specs.Groups.{is_of, group_at}
use Rattle.station_text.specs.declared.place.Place.{Place}
use Rattle.station_text.proofs.groups.grouped.Given as goal

abbrev pub invariant-selections : goal.invariant-selections
invariant-selections l = (p : Place) → group_at l.groups p ≡ filter (is_of p) (take l.selection-index l.selections)
