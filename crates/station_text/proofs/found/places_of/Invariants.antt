use Rattle.std.proofs.Common.{◌≡◌, [], drop}
use Rattle.std.specs.List.{filter_map}
use Rattle.list_laws.specs.InOrder.{in_order}
use Rattle.station_text.specs.Found.{place_of, place_cmp}
use Rattle.station_text.proofs.found.places_of.Given as goal

abbrev pub invariant-selections : goal.invariant-selections
invariant-selections l =
    in_order place_cmp l.places.keys (filter_map place_of (drop l.selection-index l.selections)) ≡ in_order place_cmp [] (filter_map place_of l.selections)
