use Rattle.std.proofs.Common.{◌++◌, ◌∙◌, List, map, filter, ap}
use Rattle.dataselect.specs.declared.query.Selection.{Selection}
use Rattle.epochs.specs.Lines.{LineValues}
use Rattle.station_text.specs.Found.{level_rank, stands_at}
use Rattle.station_text.specs.Lines.{line_at}
use Rattle.station_text.specs.Matched.{selection_at, is_asked_by}
use Rattle.station_text.specs.declared.place.Place.{Place}
use Rattle.station_text.proofs.Grouped.{decided_at}
use Rattle.station_text.proofs.Inside.{ok_step}
use Rattle.station_text.proofs.found.walk_group.Goals as goal

pub returns : goal.returns
returns c =
    let live : List LineValues = c.args.catalog.now in
    let q = c.args.query.now in
    let place : Place = c.args.place.now in
    let found : List Selection = map selection_at c.args.selections.now in
    ok_step c.walk_station.result
    (λ h. h
    ∙ ap (λ (es : List LineValues). map line_at c.args.asked.now ++ es)
    (ap (filter (is_asked_by q.level live q found)) (c.lines_at-lines.ensures ∙ ap (filter (stands_at (level_rank q.level) place)) c.lines.ensures.lines)
    ∙ decided_at live q place found c.requires))
    c.walk_station.ensures
