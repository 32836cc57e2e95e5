-- Lines laid over others: those that were put in, and of the others those whose keys weren't taken out.
use Rattle.std.specs.Prelude.{◌≡◌, Bool, false, not, List, length, map, filter}
use Rattle.std.specs.List.{list_any, AllByRecursion}
use Rattle.std.specs.List.Sorted.{IsStrictlySortedBy}
use Rattle.std.specs.Ordering.{is_eq}
use Rattle.std.specs.BTreeSet.{BTreeSet}
use Rattle.list_laws.specs.InOrder.{in_order}
use Rattle.epochs.specs.Lines.{LineValues}
use Rattle.epochs.specs.Views.{values_of_line}
use Rattle.epoch_rules.specs.declared.key_order.KeyView.{KeyView}
use Rattle.epoch_rules.specs.declared.overlay.Overlay.{Overlay}
use Rattle.epoch_rules.specs.KeyOrder.{key_parts_of, line_cmp, have_one_key, parts_cmp}
use Rattle.epoch_rules.specs.KeyViews.{parts_of_view}
use Rattle.epoch_rules.specs.MapLines.{lines_in, AreKeyed}

-- a key is the line's
abbrev pub has_key : BTreeSet KeyView → LineValues → Bool
has_key keys e = list_any (λ v. is_eq (parts_cmp (key_parts_of e) (parts_of_view v))) keys.keys

-- the lines whose keys weren't taken out
abbrev pub left_of : BTreeSet KeyView → List LineValues → List LineValues
left_of gone lines = filter (λ e. not (has_key gone e)) lines

-- of the lines below those that are left
abbrev pub left_below : Overlay → List LineValues
left_below o = left_of o.gone (map values_of_line o.base.now)

-- all lines, in the order of their keys
abbrev pub overlaid : Overlay → List LineValues
overlaid o = in_order line_cmp (left_below o) (lines_in o.put)

-- both lists are in the order of keys and have no key in common, and all lines are counted
pub record IsOverlay (o : Overlay) : Type 0 where
  pub keyed : AreKeyed o.put
  pub listed : IsStrictlySortedBy line_cmp (lines_in o.put)
  pub based : IsStrictlySortedBy line_cmp (map values_of_line o.base.now)
  pub apart : AllByRecursion (λ e. list_any (have_one_key e) (left_below o) ≡ false) (lines_in o.put)
  pub counted : o.count ≡ length (overlaid o)
