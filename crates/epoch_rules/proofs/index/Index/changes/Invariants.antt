use Rattle.std.proofs.Common.{◌≡◌, ◌++◌, map, drop}
use Rattle.epochs.specs.Views.{values_of_line}
use Rattle.epoch_rules.specs.Catalog.{IsCatalog}
use Rattle.epoch_rules.specs.Kept.{AreKept}
use Rattle.epoch_rules.specs.LiveLines.{live_lines}
use Rattle.epoch_rules.specs.Outlines.{outlined, IsOutline}
use Rattle.epoch_rules.proofs.index.Index.changes.Given as goal

abbrev pub invariant-lines : goal.invariant-lines
invariant-lines l =
    IsOutline l.outline × IsCatalog (outlined l.outline) × AreKept (outlined l.outline) (map values_of_line (drop l.line-index l.lines))
    × (live_lines (outlined l.outline ++ map values_of_line (drop l.line-index l.lines)) ≡ live_lines (map values_of_line l.live ++ map values_of_line l.lines))
    × (l.outline.index.now ≡ l.self)
