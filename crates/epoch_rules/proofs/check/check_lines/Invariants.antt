use Rattle.std.proofs.Common.{◌≡◌, ◌+◌, map, drop}
use Rattle.epochs.specs.Views.{values_of_line}
use Rattle.epoch_rules.specs.Catalog.{IsCatalog}
use Rattle.epoch_rules.specs.Outlines.{outlined, IsOutline}
use Rattle.epoch_rules.specs.Kept.{broken_from, first_broken}
use Rattle.epoch_rules.proofs.check.check_lines.Given as goal

abbrev pub invariant-lines : goal.invariant-lines
invariant-lines l =
    IsOutline l.outline × IsCatalog (outlined l.outline)
    × (broken_from (l.place + 1) (outlined l.outline) (map values_of_line (drop l.place l.lines)) ≡ first_broken (map values_of_line l.live) (map values_of_line l.lines))
