use Rattle.std.proofs.Common.{◌≡◌, ◌≤◌, ◌+◌, ◌++◌, map, length, vec_len, vec_capacity}
use Rattle.epochs.specs.Views.{values_of_line}
use Rattle.epoch_catalog.specs.Wide.{is_wide, places_from, wide_places}
use Rattle.epoch_catalog.proofs.wide.note_wide.Given as goal

abbrev pub invariant-lines : goal.invariant-lines
invariant-lines l = record {
  noted : l.places.items ++ places_from is_wide l.place (map values_of_line l.rest) ≡ wide_places (map values_of_line l.lines);
  walked : l.place + length l.rest ≡ length l.lines;
  few : vec_len l.places ≤ l.place;
  room : vec_capacity l.places ≡ vec_capacity l.fn.places;
}

abbrev pub decreases-lines : goal.decreases-lines
decreases-lines l = length l.rest
