use Rattle.std.proofs.Common.{sym, ap}
use Rattle.epochs.specs.Views.{values_of_line}
use Rattle.station_text.specs.Matched.{line_place}
use Rattle.station_text.proofs.place.line_place.Goals as goal

pub returns-in-Cha : goal.returns-in-Cha
returns-in-Cha c = ap (λ l. line_place (values_of_line l)) (sym c.in-Cha.is)
