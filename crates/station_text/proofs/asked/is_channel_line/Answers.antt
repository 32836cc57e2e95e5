use Rattle.std.proofs.Common.{◌∙◌, sym, ap}
use Rattle.epochs.specs.declared.line.Line.TheVariants.{Sta}
use Rattle.epochs.specs.Views.{values_of_line}
use Rattle.station_text.specs.Asked.{is_inner_channel}
use Rattle.station_text.proofs.asked.is_channel_line.Goals as goal

pub returns-in-Cha : goal.returns-in-Cha
returns-in-Cha c = c.is_inner_channel.ensures ∙ ap (λ l. is_inner_channel c.args.selection.now (values_of_line (Sta c.args.station.now)) (values_of_line l)) (sym c.in-Cha.is)
