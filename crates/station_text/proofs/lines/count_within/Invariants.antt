use Rattle.std.proofs.Common.{◌≤◌, map, take}
use Rattle.std.specs.List.{filter_map}
use Rattle.epochs.specs.declared.line.Line.TheVariants.{Net}
use Rattle.epochs.specs.Views.{values_of_line}
use Rattle.station_text.specs.Asked.{station_within}
use Rattle.station_text.proofs.Counted.{AreCounted}
use Rattle.station_text.proofs.lines.count_within.Given as goal

abbrev pub invariant-lines : goal.invariant-lines
invariant-lines l = record {
  counted : AreCounted l.counted (filter_map (station_within (values_of_line (Net l.network))) (map values_of_line (take l.line-index l.lines)));
  few : l.counted.codes ≤ l.line-index;
}
