use Rattle.std.proofs.Common.{◌++◌, ◌∙◌, List, map, filter, ap}
use Rattle.std.specs.Borrow.{Bor}
use Rattle.epochs.specs.declared.line.Line.{Line}
use Rattle.epochs.specs.Views.{values_of_line}
use Rattle.station_text.specs.Asked.{is_line_asked}
use Rattle.station_text.specs.Lines.{line_at}
use Rattle.station_text.proofs.found.asked_among.Goals as goal

pub returns : goal.returns
returns c =
    c.in_ok-walk.ensures.asked
    ∙ ap (λ (asked : List (Bor Line)). map line_at asked ++ filter (is_line_asked c.args.catalog.now c.args.query.now) (map values_of_line c.args.lines.now)) c.new-asked.ensures
