use Rattle.epochs.specs.declared.line.Line.TheVariants.{Net}
use Rattle.epochs.specs.Lines.{LineValues}
use Rattle.epochs.specs.Views.{values_of_line}
use Rattle.station_text.specs.Asked.{is_inner_station, stations_of}
use Rattle.station_text.proofs.Inside.{any_seen}
use Rattle.station_text.proofs.asked.has_station_of_all.Goals as goal

pub returns : goal.returns
returns c =
    let e : LineValues = values_of_line (Net c.args.network.now) in
    any_seen (is_inner_station c.args.catalog.now c.args.area.now c.args.selection.now e) c.family.result.now (stations_of e c.args.catalog.now) c.has_inner_station.result c.family.ensures c.has_inner_station.ensures
