-- What is kept of live lines beside them, so that the rules need no walk over all of them.
use Rattle.std.specs.Prelude.{◌≡◌, List, length, filter}
use Rattle.epochs.specs.Lines.{LineValues}
use Rattle.epoch_rules.specs.declared.index.Index.{Index}
use Rattle.epoch_rules.specs.Endings.{HoldsEnds}
use Rattle.epoch_rules.specs.Rules.{is_operator}

-- the operators are counted, and the ends are those of the lines
pub record IsCatalogIndex (index : Index) (lines : List LineValues) : Type 0 where
  pub counted : index.operators ≡ length (filter is_operator lines)
  pub ended : HoldsEnds index.ends lines
