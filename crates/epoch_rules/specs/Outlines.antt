-- How the program holds the live lines while it checks others.
use Rattle.std.specs.Prelude.{◌≡◌, List, length, filter}
use Rattle.epochs.specs.Lines.{LineValues}
use Rattle.epoch_rules.specs.declared.outline.Outline.{Outline}
use Rattle.epoch_rules.specs.Endings.{AreEndsOf}
use Rattle.epoch_rules.specs.EndsOver.{has_end_over}
use Rattle.epoch_rules.specs.Overlays.{overlaid, IsOverlay}
use Rattle.epoch_rules.specs.Rules.{is_operator}

-- the lines of an outline
abbrev pub outlined : Outline → List LineValues
outlined o = overlaid o.lines

-- the operators are counted, and the ends are those of the lines
pub record IsOutline (o : Outline) : Type 0 where
  pub laid : IsOverlay o.lines
  pub counted : o.operators ≡ length (filter is_operator (outlined o))
  pub ended : AreEndsOf (has_end_over o.ends o.index.now.ends) (outlined o)
