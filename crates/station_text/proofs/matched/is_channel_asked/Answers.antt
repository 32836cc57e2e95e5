use Rattle.std.proofs.Common.{◌∙◌, sym}
use Rattle.epochs.proofs.FieldSteps.{list_any-map}
use Rattle.epochs.specs.declared.line.Line.TheVariants.{Cha}
use Rattle.epochs.specs.Views.{values_of_line}
use Rattle.station_text.specs.Matched.{selection_at, takes_channel}
use Rattle.station_text.proofs.Inside.{and_second}
use Rattle.station_text.proofs.matched.is_channel_asked.Goals as goal

pub returns-then-is_eligible_channel : goal.returns-then-is_eligible_channel
returns-then-is_eligible_channel c =
    and_second _ _ _ (sym c.is_eligible_channel.ensures ∙ c.if-is_eligible_channel.true)
    (c.some_takes_channel.ensures ∙ sym (list_any-map (takes_channel (values_of_line (Cha c.args.channel.now))) selection_at c.args.selections.now))
