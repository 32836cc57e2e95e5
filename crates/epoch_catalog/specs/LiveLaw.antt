-- Which lines are live, in the subject's words.
use Rattle.std.specs.Prelude.{◌≡◌, true, false, List, ◌∷◌, ◌++◌}
use Rattle.epochs.specs.Lines.{LineValues}
use Rattle.epoch_rules.specs.LiveLines.{is_said, is_replaced}

-- one of the lines isn't a deletion, and no later line has its key
pub record IsLive (lines : List LineValues) (e : LineValues) : Type 0 where
  pub before : List LineValues
  pub after : List LineValues
  pub split : lines ≡ before ++ e ∷ after
  pub stated : is_said e ≡ true
  pub last : is_replaced after e ≡ false
