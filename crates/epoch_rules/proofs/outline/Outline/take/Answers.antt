use Rattle.std.proofs.Common.{◌≡◌, ◌∙◌, true, false, List, OnOk, sym, ap, subst}
use Rattle.std.specs.List.{list_any}
use Rattle.std.specs.BTreeSet.{insert_key}
use Rattle.epochs.specs.Lines.{LineValues}
use Rattle.epochs.specs.Views.{values_of_line}
use Rattle.epoch_rules.specs.KeyOrder.{line_cmp, have_one_key}
use Rattle.epoch_rules.specs.Outlines.{outlined}
use Rattle.epoch_rules.proofs.OutlineSteps.{taken}
use Rattle.epoch_rules.proofs.WithLine.{none_other}
use Rattle.epoch_rules.proofs.outline.Outline.take.Goals as goal

pub put-requires-clause-absent : goal.put-requires-clause-absent
put-requires-clause-absent c =
    ap (list_any (have_one_key (values_of_line c.args.line.now))) c.in_ok-remove.ensures.lines ∙ none_other (values_of_line c.args.line.now) (outlined c.args.self.now)

pub returns-then-is_said-clause-lines : goal.returns-then-is_said-clause-lines
returns-then-is_said-clause-lines c =
    let e = values_of_line c.args.line.now in
    let live = outlined c.args.self.now in
    let after = ap (λ l. insert_key line_cmp l e) c.in_ok-remove.ensures.lines ∙ sym (taken live e true c.requires.catalog.rises c.requires.catalog.states (sym c.is_said.ensures ∙ c.if-is_said.true)) in
    subst (λ (l : List LineValues). OnOk c.put.result (outlined c.put.new.self ≡ l)) after c.put.ensures.lines

pub returns-clause-lines : goal.returns-clause-lines
returns-clause-lines c =
    c.in_ok-remove.ensures.lines ∙ sym (taken (outlined c.args.self.now) (values_of_line c.args.line.now) false c.requires.catalog.rises c.requires.catalog.states (sym c.is_said.ensures ∙ c.if-is_said.false))
