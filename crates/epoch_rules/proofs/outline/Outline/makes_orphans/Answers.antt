use Rattle.std.proofs.Common.{◌∙◌, ◌&&◌, inl, inr}
use Rattle.std.specs.List.{list_any}
use Rattle.epochs.specs.Views.{values_of_line}
use Rattle.epoch_rules.specs.Endings.{is_child}
use Rattle.epoch_rules.specs.Losses.{is_cut_in}
use Rattle.epoch_rules.specs.Outlines.{outlined}
use Rattle.epoch_rules.proofs.CutChildren.{at_network, at_station, at_other, cut_stations, cut_channels}
use Rattle.epoch_rules.proofs.outline.Outline.makes_orphans.Goals as goal

pub returns-in-Some : goal.returns-in-Some
returns-in-Some c =
    let e = values_of_line c.args.line.now in
    let live = outlined c.args.self.now in
    elim c.in-Some.ensures [
      | inl n ↦
          c.cuts.ensures
          ∙ (λ i. list_any (λ x. is_child x && is_cut_in (n.kind i) (n.first i) (n.second i) live e x) live)
          ∙ cut_stations live c.requires.catalog e
          ∙ at_network live e n.rank
      | inr s ↦
          c.cuts.ensures
          ∙ (λ i. list_any (λ x. is_child x && is_cut_in (s.kind i) (s.first i) (s.second i) live e x) live)
          ∙ cut_channels live c.requires.catalog e
          ∙ at_station live e s.rank
    ]

pub returns-in-None : goal.returns-in-None
returns-in-None c = c.loses_grants.ensures ∙ at_other (outlined c.args.self.now) (values_of_line c.args.line.now) c.in-None.ensures.0 c.in-None.ensures.1
