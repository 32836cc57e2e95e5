use Rattle.std.proofs.Common.{◌≡◌, ◌++◌, map, filter, take}
use Rattle.epochs.specs.Views.{values_of_line}
use Rattle.station_text.specs.Lines.{line_at}
use Rattle.station_text.specs.Matched.{selection_at, is_asked_by}
use Rattle.station_text.proofs.matched.walk_station.Given as goal

abbrev pub invariant-lines : goal.invariant-lines
invariant-lines l =
    map line_at l.asked ≡ map line_at l.initial.asked ++ filter (is_asked_by l.query.level l.catalog l.query (map selection_at l.selections)) (map values_of_line (take l.line-index l.lines))
