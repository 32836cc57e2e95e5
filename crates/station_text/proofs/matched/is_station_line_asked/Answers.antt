use Rattle.std.proofs.Common.{◌∙◌, map, sym, ap}
use Rattle.query_parameters.specs.declared.level.Level.TheVariants as level
use Rattle.epochs.specs.Views.{values_of_line}
use Rattle.station_text.specs.Matched.{selection_at, is_asked_by}
use Rattle.station_text.proofs.matched.is_station_line_asked.Goals as goal

pub returns-in-Sta : goal.returns-in-Sta
returns-in-Sta c =
    c.is_station_asked.ensures ∙ ap (λ l. is_asked_by level.Station c.args.catalog.now c.args.query.now (map selection_at c.args.selections.now) (values_of_line l)) (sym c.in-Sta.is)
