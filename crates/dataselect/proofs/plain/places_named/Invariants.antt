use Rattle.std.proofs.Common.{◌≡◌, ◌++◌, drop}
use Rattle.dataselect.specs.Places.{places_named}
use Rattle.dataselect.proofs.Placed.{places_from}
use Rattle.dataselect.proofs.plain.places_named.Given as goal

abbrev pub invariant-rows : goal.invariant-rows
invariant-rows l = l.places ++ places_from l.name l.index (drop l.index l.rows) ≡ places_named l.name l.rows
