use Rattle.std.proofs.Common.{◌≡◌, ◌++◌, map}
use Rattle.std.specs.List.{flat_map}
use Rattle.station_text.specs.Found.{asked_at}
use Rattle.station_text.specs.Lines.{line_at}
use Rattle.station_text.proofs.found.asked_at_places.Given as goal

abbrev pub invariant-places : goal.invariant-places
invariant-places l = map line_at l.asked ++ flat_map (asked_at l.catalog l.query) l.place-iterator ≡ flat_map (asked_at l.catalog l.query) l.places.keys
