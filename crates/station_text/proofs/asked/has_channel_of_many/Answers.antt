use Rattle.epochs.specs.declared.line.Line.TheVariants.{Sta}
use Rattle.epochs.specs.Lines.{LineValues}
use Rattle.epochs.specs.Views.{values_of_line}
use Rattle.station_text.specs.Asked.{is_inner_channel, channels_of}
use Rattle.station_text.proofs.Inside.{any_seen}
use Rattle.station_text.proofs.asked.has_channel_of_many.Goals as goal

pub returns-in-None : goal.returns-in-None
returns-in-None c =
    let e : LineValues = values_of_line (Sta c.args.station.now) in
    any_seen (is_inner_channel c.args.selection.now e) c.args.lines.now (channels_of e c.args.catalog.now) c.has_inner_channel.result c.requires c.has_inner_channel.ensures
