use Rattle.std.proofs.Common.{◌≡◌, ◌∙◌, ◌+◌, List, map, drop, inr, ap, sym, subst}
use Rattle.std.proofs.lemmas.List.{drop_all}
use Rattle.epochs.specs.Lines.{LineValues}
use Rattle.epochs.specs.Views.{values_of_line}
use Rattle.epochs.specs.declared.line.Line.{Line}
use Rattle.epoch_rules.specs.Catalog.{IsCatalog}
use Rattle.epoch_rules.specs.Outlines.{outlined}
use Rattle.epoch_rules.specs.Kept.{broken_from, first_broken, check_answer}
use Rattle.epoch_rules.specs.Rules.{with_line}
use Rattle.epoch_rules.proofs.CheckSteps.{breaks_here, goes_on}
use Rattle.epoch_rules.proofs.KeptCatalog.{kept_line}
use Rattle.epoch_rules.proofs.OneCheck.{kept_from_none, broken_from_some}
use Rattle.epoch_rules.proofs.check.check_lines.Goals as goal

pub returns-in-Some-clause-refused : goal.returns-in-Some-clause-refused
returns-in-Some-clause-refused c =
    let live = map values_of_line c.args.live.now in
    let lines = map values_of_line c.args.lines.now in
    broken_from_some live c.requires.catalog.rises c.requires.catalog.states lines (c.lines.place + 1) c.in-Some.rule
    (breaks_here (c.lines.place + 1) (outlined c.lines.outline) c.args.lines.now c.lines.place c.index-lines-place.result c.in-Some.rule (first_broken live lines) c.lines-test.true c.index-lines-place.is (sym c.broken_rule.ensures ∙ c.in-Some.is) c.lines.invariant.2)

pub returns-in-Some-clause-exact : goal.returns-in-Some-clause-exact
returns-in-Some-clause-exact c =
    let first = first_broken (map values_of_line c.args.live.now) (map values_of_line c.args.lines.now) in
    inr (sym (ap check_answer (breaks_here (c.lines.place + 1) (outlined c.lines.outline) c.args.lines.now c.lines.place c.index-lines-place.result c.in-Some.rule first c.lines-test.true c.index-lines-place.is (sym c.broken_rule.ensures ∙ c.in-Some.is) c.lines.invariant.2)))

pub lines-preserved : goal.lines-preserved
lines-preserved c =
    let before = outlined c.lines.outline in
    let all = first_broken (map values_of_line c.args.live.now) (map values_of_line c.args.lines.now) in
    let line = c.index-lines-place.result in
    let kept = sym c.broken_rule.ensures ∙ c.in_default.is in
    let after : outlined c.take.new.self ≡ with_line before (values_of_line line) = c.in_ok-take.ensures.lines in (
      c.in_ok-take.ensures.outline,
      subst IsCatalog (sym after) (kept_line before (values_of_line line) c.lines.invariant.1 kept),
      ap (λ (l : List LineValues). broken_from (c.lines.place + 1 + 1) l (map values_of_line (drop (c.lines.place + 1) c.args.lines.now))) after
          ∙ goes_on (c.lines.place + 1) before c.args.lines.now c.lines.place line all c.lines-test.true c.index-lines-place.is kept c.lines.invariant.2,
    )

pub returns-clause-kept : goal.returns-clause-kept
returns-clause-kept c =
    let live = map values_of_line c.args.live.now in
    let lines = map values_of_line c.args.lines.now in
    kept_from_none 1 live lines
    (sym c.lines.invariant.2 ∙ ap (λ (l : List Line). broken_from (c.lines.place + 1) (outlined c.lines.outline) (map values_of_line l)) (drop_all c.lines.place c.args.lines.now c.lines-test.false))

pub returns-clause-exact : goal.returns-clause-exact
returns-clause-exact c =
    inr (sym (ap check_answer
    (sym c.lines.invariant.2 ∙ ap (λ (l : List Line). broken_from (c.lines.place + 1) (outlined c.lines.outline) (map values_of_line l)) (drop_all c.lines.place c.args.lines.now c.lines-test.false))))
