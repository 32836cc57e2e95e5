use Rattle.std.proofs.Common.{List, map, ap, ◌∙◌}
use Rattle.std.specs.Borrow.{Bor}
use Rattle.dataselect.specs.declared.query.Selection.{Selection}
use Rattle.epochs.specs.Lines.{LineValues}
use Rattle.epochs.specs.Views.{values_of_line}
use Rattle.station_text.specs.declared.place.Place.{Place}
use Rattle.station_text.specs.Matched.{selection_at, on_network, on_station, is_asked_by}
use Rattle.station_text.proofs.Decided.{decided}
use Rattle.station_text.proofs.matched.is_line_asked.Goals as goal

pub returns : goal.returns
returns c =
    let live : List LineValues = c.args.catalog.now in
    let q = c.args.query.now in
    let e : LineValues = values_of_line c.args.line.now in
    c.is_asked_by.ensures
    ∙ ap (λ (ss : List (Bor Selection)). is_asked_by q.level live q (map selection_at ss) e) c.as_slice.ensures
    ∙ decided q.level live q e (map selection_at c.args.kept.now.on_station)
    (λ place h. c.requires.selections.1 ∙ ap (λ (p : Place). on_station p.station (on_network p.network q.selections)) (c.requires.place place h))
