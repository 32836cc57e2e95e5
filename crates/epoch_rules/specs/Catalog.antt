-- What the type of a catalog keeps of its lines.
use Rattle.std.specs.Prelude.{◌≡◌, Bool, true, false, ◌&&◌, List}
use Rattle.std.specs.List.{list_any, AllByRecursion}
use Rattle.std.specs.List.Sorted.{IsStrictlySortedBy}
use Rattle.std.specs.declared.cmp.Ordering.{Ordering}
use Rattle.std.specs.Ordering.{nat_cmp, ordering_then}
use Rattle.std.specs.Str.{bytes_eq}
use Rattle.epochs.specs.declared.kinds.LineKind.TheVariants.{Usr}
use Rattle.epochs.specs.Kinds.{Text}
use Rattle.epochs.specs.Lines.{LineValues}
use Rattle.epoch_rules.specs.KeyOrder.{KeyParts, key_parts_of, line_cmp, rank_of, text_cmp}
use Rattle.epoch_rules.specs.LiveLines.{is_said}
use Rattle.epoch_rules.specs.Rules.{is_line_of, has_rival, is_orphan}

-- Lines in the order of their keys, each key once and no deletion among them, of which no epoch overlaps
-- another of its codes, and each has what it rests on.
pub record IsCatalog (live : List LineValues) : Type 0 where
  pub rises : IsStrictlySortedBy line_cmp live
  pub states : AllByRecursion (λ e. is_said e ≡ true) live
  pub apart : list_any (has_rival live) live ≡ false
  pub rests : list_any (is_orphan live) live ≡ false

-- the line is the user of that name
abbrev pub is_user : Text → LineValues → Bool
is_user name e = is_line_of Usr e && bytes_eq (key_parts_of e).first name

-- where a key stands to that of a user of that name: before it, at it or behind it
abbrev pub user_place : Text → KeyParts → Ordering
user_place name p = ordering_then (nat_cmp p.rank (rank_of Usr)) (text_cmp p.first name)
