-- The last new lines of their keys, found from the last line to the first; and how live lines and these are
-- merged, from the last key to the first.
use Rattle.std.specs.Prelude.{◌≡◌, Bool, false, List, [], ◌∷◌, ◌++◌, reverse}
use Rattle.std.specs.List.{AllByRecursion}
use Rattle.std.specs.declared.cmp.Ordering.{Ordering}
use Rattle.std.specs.declared.cmp.Ordering.TheVariants.{Less, Equal, Greater}
use Rattle.std.specs.BTreeSet.{BTreeSet}
use Rattle.epochs.specs.Lines.{LineValues}
use Rattle.epoch_rules.specs.declared.key_order.KeyView.{KeyView}
use Rattle.epoch_rules.specs.KeyOrder.{line_cmp, have_one_key}
use Rattle.epoch_rules.specs.Overlays.{has_key}
use Rattle.epoch_rules.specs.LiveLines.{is_replaced, last_lines}

-- the keys are those of the lines, and the heads are the last line of each key
pub record AreFound (lines : List LineValues) (keys : BTreeSet KeyView) (heads : List LineValues) : Type 0 where
  pub keys_are : (e : LineValues) → has_key keys e ≡ is_replaced lines e
  pub heads_are : heads ≡ reverse (last_lines lines)

-- where the key of the last line stands to a head's; before it where there is no line
abbrev pub last_place : List LineValues → LineValues → Ordering
last_place [] head = Less
last_place (l ∷ []) head = line_cmp l head
last_place (l ∷ m ∷ more) head = last_place (m ∷ more) head

-- the lines at the end whose keys are greater than a head's have moved behind others, the last of them first
pub record AreMoved (head : LineValues) (lines kept behind after : List LineValues) : Type 0 where
  pub moved : List LineValues
  pub split : lines ≡ kept ++ moved
  pub put : after ≡ behind ++ reverse moved
  pub above : AllByRecursion (λ l. line_cmp l head ≡ Greater) moved

-- the lines whose keys are less than a head's stay, and only lines of its key stood behind them
pub record AreBefore (head : LineValues) (lines kept : List LineValues) : Type 0 where
  pub dropped : List LineValues
  pub split : lines ≡ kept ++ dropped
  pub same : AllByRecursion (λ l. line_cmp l head ≡ Equal) dropped
  pub below : AllByRecursion (λ l. line_cmp l head ≡ Less) kept

-- the first line has a head's key
abbrev pub is_first : List LineValues → LineValues → Bool
is_first [] head = false
is_first (l ∷ live) head = have_one_key head l
