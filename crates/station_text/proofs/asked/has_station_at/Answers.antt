use Rattle.std.proofs.Common.{◌∙◌, List, filter, ap, refl}
use Rattle.epochs.specs.declared.line.Line.TheVariants.{Net}
use Rattle.epochs.specs.Lines.{LineValues}
use Rattle.epochs.specs.Views.{values_of_line}
use Rattle.station_text.specs.Asked.{is_inner_station}
use Rattle.station_text.specs.Found.{stands_at}
use Rattle.station_text.specs.declared.place.Place.{Place}
use Rattle.station_text.proofs.Inside.{any_seen}
use Rattle.station_text.proofs.PlaceOrder.{place_decides}
use Rattle.station_text.proofs.asked.has_station_at.Goals as goal

pub returns : goal.returns
returns c =
    let live : List LineValues = c.args.catalog.now in
    let area = c.args.area.now in
    let s = c.args.selection.now in
    let e : LineValues = values_of_line (Net c.args.network.now) in
    let place : Place = record { network = c.args.network.now.network; station = c.args.station } in
    any_seen (is_inner_station live area s e) c.lines_at-lines.result.now (filter (stands_at 1 place) live) c.has_inner_station.result (c.lines_at-lines.ensures ∙ ap (filter (stands_at 1 place)) c.lines.ensures.lines) c.has_inner_station.ensures
    ∙ place_decides area s e place refl c.requires live
