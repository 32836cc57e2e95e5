-- Lines in a map by their keys.
use Rattle.std.specs.Prelude.{◌≡◌, List, map}
use Rattle.std.specs.Borrow.{Bor}
use Rattle.std.specs.List.{AllByRecursion}
use Rattle.std.specs.BTreeMap.{BTreeMap}
use Rattle.epochs.specs.Lines.{LineValues}
use Rattle.epochs.specs.Views.{values_of_line}
use Rattle.epochs.specs.declared.line.Line.{Line}
use Rattle.epoch_rules.specs.declared.key_order.KeyView.{KeyView}
use Rattle.epoch_rules.specs.KeyOrder.{key_parts_of}
use Rattle.epoch_rules.specs.KeyViews.{parts_of_view}

-- the lines of a map
abbrev pub lines_in : BTreeMap KeyView (Bor Line) → List LineValues
lines_in m = map (λ e. values_of_line e.1.now) m.entries

-- each line stands at its own key
abbrev pub AreKeyed : BTreeMap KeyView (Bor Line) → Type 0
AreKeyed m = AllByRecursion (λ e. parts_of_view e.0 ≡ key_parts_of (values_of_line e.1.now)) m.entries
