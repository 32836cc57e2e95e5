use Rattle.std.proofs.Common.{◌≡◌, ◌⊎◌, List, map, ap, subst, ◌∙◌, IsErrOf}
use Rattle.epochs.specs.Lines.{LineValues}
use Rattle.epochs.specs.Views.{values_of_line}
use Rattle.epoch_rules.specs.declared.rule.CheckFault.TheVariants.{OutOfMemory}
use Rattle.epoch_rules.specs.Kept.{check_answer, first_broken}
use Rattle.epoch_catalog.proofs.catalog.Catalog.check.Goals as goal

pub returns-clause-exact : goal.returns-clause-exact
returns-clause-exact c =
    let r = c.check_lines.result in
    let lines : List LineValues = map values_of_line c.args.lines.now in
    subst (λ (live : List LineValues). IsErrOf r OutOfMemory ⊎ (r ≡ check_answer (first_broken live lines))) (ap (map values_of_line) c.as_slice.ensures.value ∙ c.self.view_is)
    (subst (λ (given : List LineValues). IsErrOf r OutOfMemory ⊎ (r ≡ check_answer (first_broken (map values_of_line c.as_slice.result.now) given)))
    (ap (map values_of_line) c.as_slice-2.ensures) c.check_lines.ensures.exact)
