use Rattle.std.proofs.Common.{◌≡◌, false, map, ap, sym, subst, ◌∙◌, List}
use Rattle.std.specs.List.{list_any}
use Rattle.epochs.specs.declared.kinds.LineKind.TheVariants.{Rst}
use Rattle.epochs.specs.Lines.{LineValues}
use Rattle.epochs.specs.Views.{values_of_line}
use Rattle.epoch_rules.specs.Catalog.{IsCatalog}
use Rattle.epoch_rules.specs.Indexes.{IsCatalogIndex}
use Rattle.epoch_rules.specs.Rules.{is_line_of}
use Rattle.epoch_rules.proofs.KeptCatalog.{no_lines}
use Rattle.epoch_catalog.specs.Wide.{wide_places}
use Rattle.epoch_catalog.specs.Withdrawals.{IsWithdrawalIndex}
use Rattle.epoch_catalog.proofs.catalog.Catalog.new.Goals as goal

pub invariant_of-result : goal.invariant_of-result
invariant_of-result c =
    let none = sym (ap (map values_of_line) c.new.ensures.items) in (
      subst IsCatalog none no_lines,
      c.new-2.ensures.items ∙ ap wide_places none,
      ap (list_any (is_line_of Rst)) none,
      subst (IsWithdrawalIndex c.no_withdrawals.result.names.items c.no_withdrawals.result.marks.items) none c.no_withdrawals.ensures,
      subst (IsCatalogIndex c.new-3.result) none c.new-3.ensures,
    )
