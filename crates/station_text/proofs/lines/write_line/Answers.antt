use Rattle.std.proofs.Common.{◌++◌, ◌∙◌, sym, ap}
use Rattle.epochs.specs.Views.{values_of_line}
use Rattle.station_text.specs.Texts.{line_text}
use Rattle.station_text.proofs.Inside.{ok_step}
use Rattle.station_text.proofs.lines.write_line.Goals as goal

pub returns-in-Sta : goal.returns-in-Sta
returns-in-Sta c =
    ok_step c.write_station.result (λ h. h c.args.catalog.now ∙ ap (λ l. c.args.out.now ++ line_text c.args.catalog.now (values_of_line l)) (sym c.in-Sta.is)) c.write_station.ensures

pub returns-in-Cha : goal.returns-in-Cha
returns-in-Cha c =
    ok_step c.write_channel.result (λ h. h c.args.catalog.now ∙ ap (λ l. c.args.out.now ++ line_text c.args.catalog.now (values_of_line l)) (sym c.in-Cha.is)) c.write_channel.ensures
