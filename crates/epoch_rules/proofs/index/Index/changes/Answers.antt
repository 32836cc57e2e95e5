use Rattle.std.proofs.Common.{◌≡◌, ◌∙◌, ◌+◌, ◌++◌, List, map, filter, length, drop, sym, ap, subst}
use Rattle.std.proofs.lemmas.List.{drop_all}
use Rattle.epochs.specs.Lines.{LineValues}
use Rattle.epochs.specs.Views.{values_of_line}
use Rattle.epochs.specs.declared.line.Line.{Line}
use Rattle.std.specs.Borrow.{Bor}
use Rattle.epoch_rules.specs.declared.index.Index.{Index}
use Rattle.epoch_rules.specs.Catalog.{IsCatalog}
use Rattle.epoch_rules.specs.Endings.{AreEndsOf}
use Rattle.epoch_rules.specs.EndsOver.{has_end_over}
use Rattle.epoch_rules.specs.Kept.{AreKept}
use Rattle.epoch_rules.specs.LiveLines.{live_lines}
use Rattle.epoch_rules.specs.Outlines.{outlined}
use Rattle.epoch_rules.specs.Rules.{is_operator, with_line}
use Rattle.epoch_rules.proofs.IndexSteps.{kept_here, taken_here, taken_all}
use Rattle.epoch_rules.proofs.KeptCatalog.{kept_line}
use Rattle.epoch_rules.proofs.index.Index.changes.Goals as goal

pub lines-preserved : goal.lines-preserved
lines-preserved c =
    let before = outlined c.lines.outline in
    let lines = c.args.lines.now in
    let line = c.line-item.result in
    let all = live_lines (map values_of_line c.args.live.now ++ map values_of_line lines) in
    let rest = map values_of_line (drop (c.lines.line-index + 1) lines) in
    let kept = kept_here before lines c.lines.line-index line c.lines-test.true c.line-item.is c.lines.invariant.2 in
    let after : outlined c.take.new.self ≡ with_line before (values_of_line line) = c.in_ok-take.ensures.lines in (
      c.in_ok-take.ensures.outline,
      subst IsCatalog (sym after) (kept_line before (values_of_line line) c.lines.invariant.1 kept.0),
      subst (λ (l : List LineValues). AreKept l rest) (sym after) kept.1,
      ap (λ (l : List LineValues). live_lines (l ++ rest)) after
          ∙ taken_here before lines c.lines.line-index line all c.lines-test.true c.line-item.is c.lines.invariant.3,
      ap (λ (b : Bor Index). b.now) c.in_ok-take.ensures.index ∙ c.lines.invariant.4,
    )

pub returns-clause-counted : goal.returns-clause-counted
returns-clause-counted c =
    let before = outlined c.lines.outline in
    let all = live_lines (map values_of_line c.args.live.now ++ map values_of_line c.args.lines.now) in
    let none = ap (λ (l : List Line). live_lines (before ++ map values_of_line l)) (drop_all c.lines.line-index c.args.lines.now c.lines-test.false) in
    let same : before ≡ all = sym (taken_all before c.lines.invariant.1) ∙ sym none ∙ c.lines.invariant.3 in
    c.lines.invariant.0.counted ∙ ap (λ (l : List LineValues). length (filter is_operator l)) same

pub returns-clause-ended : goal.returns-clause-ended
returns-clause-ended c =
    let before = outlined c.lines.outline in
    let all = live_lines (map values_of_line c.args.live.now ++ map values_of_line c.args.lines.now) in
    let none = ap (λ (l : List Line). live_lines (before ++ map values_of_line l)) (drop_all c.lines.line-index c.args.lines.now c.lines-test.false) in
    let same : before ≡ all = sym (taken_all before c.lines.invariant.1) ∙ sym none ∙ c.lines.invariant.3 in
    subst (λ (i : Index). AreEndsOf (has_end_over c.lines.outline.ends i.ends) all) c.lines.invariant.4 (subst (AreEndsOf (has_end_over c.lines.outline.ends c.lines.outline.index.now.ends)) same c.lines.invariant.0.ended)
