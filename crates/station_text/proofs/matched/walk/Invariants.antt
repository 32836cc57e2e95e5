use Rattle.std.proofs.Common.{◌≡◌, ◌++◌, map, filter, take}
use Rattle.epochs.specs.Views.{values_of_line}
use Rattle.station_text.specs.Asked.{is_line_asked}
use Rattle.station_text.specs.Lines.{line_at}
use Rattle.station_text.specs.Matched.{AreMatched}
use Rattle.station_text.proofs.matched.walk.Given as goal

abbrev pub invariant-lines : goal.invariant-lines
invariant-lines l = record {
  asked : map line_at l.asked ≡ map line_at l.initial.asked ++ filter (is_line_asked l.catalog l.query) (map values_of_line (take l.line-index l.lines));
  kept : AreMatched l.query.selections l.kept;
}
