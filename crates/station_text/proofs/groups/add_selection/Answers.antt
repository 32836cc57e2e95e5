use Rattle.std.proofs.Common.{◌∙◌, sym}
use Rattle.station_text.proofs.Grouped.{joined_by, joined_none}
use Rattle.station_text.proofs.Inside.{ok_step}
use Rattle.station_text.proofs.groups.add_selection.Goals as goal

pub returns-in-Some : goal.returns-in-Some
returns-in-Some c =
    ok_step c.add.result (λ h. joined_by c.args.groups.now c.add.new.groups c.in-Some.place c.args.selection.now (sym c.place_of.ensures ∙ c.in-Some.is) h) c.add.ensures

pub returns-in-None : goal.returns-in-None
returns-in-None c = joined_none c.args.groups.now c.args.selection.now (sym c.place_of.ensures ∙ c.in-None.is)
