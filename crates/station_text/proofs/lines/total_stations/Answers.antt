use Rattle.std.proofs.Common.{◌∙◌, List, map}
use Rattle.epochs.specs.declared.line.Line.TheVariants.{Net}
use Rattle.epochs.specs.Lines.{LineValues}
use Rattle.epochs.specs.Views.{values_of_line}
use Rattle.station_text.proofs.Counted.{counted_is}
use Rattle.station_text.proofs.lines.total_stations.Goals as goal

pub returns : goal.returns
returns c =
    let live : List LineValues = c.args.catalog.now in
    c.count_within.ensures ∙ counted_is live (values_of_line (Net c.args.network.now)) (map values_of_line c.family-stations.result.now) c.lines.ensures.kept c.family-stations.ensures
