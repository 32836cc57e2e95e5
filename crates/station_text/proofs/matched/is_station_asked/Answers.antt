use Rattle.std.proofs.Common.{◌∙◌, sym}
use Rattle.epochs.proofs.FieldSteps.{list_any-map}
use Rattle.epochs.specs.declared.line.Line.TheVariants.{Sta}
use Rattle.epochs.specs.Views.{values_of_line}
use Rattle.station_text.specs.Matched.{selection_at, takes_station}
use Rattle.station_text.proofs.Inside.{and_second}
use Rattle.station_text.proofs.matched.is_station_asked.Goals as goal

pub returns-then-is_eligible_station : goal.returns-then-is_eligible_station
returns-then-is_eligible_station c =
    and_second _ _ _ (sym c.is_eligible_station.ensures ∙ c.if-is_eligible_station.true)
    (c.some_takes_station.ensures ∙ sym (list_any-map (takes_station c.args.catalog.now (values_of_line (Sta c.args.station.now))) selection_at c.args.selections.now))
