use Rattle.std.proofs.Common.{not, ap, length, map, sym, ◌==◌, ◌∙◌}
use Rattle.std.proofs.lemmas.List.{length-map}
use Rattle.epochs.specs.Views.{values_of_line}
use Rattle.epochs.specs.declared.kinds.LineKind.TheVariants.{Rst}
use Rattle.epoch_rules.specs.Rules.{is_line_of}
use Rattle.epoch_catalog.proofs.WithdrawalsFound.{some_kept}
use Rattle.epoch_catalog.proofs.families.has_restrictions.Goals as goal

pub returns : goal.returns
returns c =
    ap not (c.is_empty.ensures ∙ ap (λ n. n == 0) (sym (length-map c.family_in.result.now values_of_line) ∙ ap length c.family_in.ensures)) ∙ some_kept (is_line_of Rst) (map values_of_line c.args.lines.now)
