use Rattle.std.proofs.Common.{◌≡◌, ◌∙◌, not, length, nat_lt, sym}
use Rattle.std.specs.List.{list_any}
use Rattle.epochs.specs.Views.{values_of_line}
use Rattle.epoch_rules.specs.Outlines.{outlined}
use Rattle.epoch_rules.specs.Rules.{is_operator, is_orphan, most_lines, with_line}
use Rattle.epoch_rules.proofs.CommonRule.{ladder, orphans_are}
use Rattle.epoch_rules.proofs.Tidy.{tidy}
use Rattle.epoch_rules.proofs.OverlaySteps.{laid_tidy}
use Rattle.epoch_rules.proofs.outline.Outline.common_rule.Goals as goal

pub returns-then-makes_orphans : goal.returns-then-makes_orphans
returns-then-makes_orphans c =
    let e = values_of_line c.args.line.now in
    let live = outlined c.args.self.now in
    let after = with_line live e in
    let made : list_any (is_orphan after) after ≡ c.makes_orphans.result = orphans_are live e c.requires.catalog (laid_tidy c.args.self.now.lines) (tidy c.args.line.now) c.requires.none ∙ sym c.makes_orphans.ensures in
    sym (λ i. ladder ((made ∙ c.if-makes_orphans.true) i) (not (list_any is_operator after)) (nat_lt most_lines (length after)))

pub returns-then-lacks_operator : goal.returns-then-lacks_operator
returns-then-lacks_operator c =
    let e = values_of_line c.args.line.now in
    let live = outlined c.args.self.now in
    let after = with_line live e in
    let made : list_any (is_orphan after) after ≡ c.makes_orphans.result = orphans_are live e c.requires.catalog (laid_tidy c.args.self.now.lines) (tidy c.args.line.now) c.requires.none ∙ sym c.makes_orphans.ensures in
    sym (λ i. ladder ((made ∙ c.if-makes_orphans.false) i) ((sym c.lacks_operator.ensures ∙ c.if-lacks_operator.true) i) (nat_lt most_lines (length after)))

pub returns-then-are_too_many : goal.returns-then-are_too_many
returns-then-are_too_many c =
    let e = values_of_line c.args.line.now in
    let live = outlined c.args.self.now in
    let after = with_line live e in
    let made : list_any (is_orphan after) after ≡ c.makes_orphans.result = orphans_are live e c.requires.catalog (laid_tidy c.args.self.now.lines) (tidy c.args.line.now) c.requires.none ∙ sym c.makes_orphans.ensures in
    sym (λ i. ladder ((made ∙ c.if-makes_orphans.false) i) ((sym c.lacks_operator.ensures ∙ c.if-lacks_operator.false) i) ((sym c.are_too_many.ensures ∙ c.if-are_too_many.true) i))

pub returns-else-are_too_many : goal.returns-else-are_too_many
returns-else-are_too_many c =
    let e = values_of_line c.args.line.now in
    let live = outlined c.args.self.now in
    let after = with_line live e in
    let made : list_any (is_orphan after) after ≡ c.makes_orphans.result = orphans_are live e c.requires.catalog (laid_tidy c.args.self.now.lines) (tidy c.args.line.now) c.requires.none ∙ sym c.makes_orphans.ensures in
    sym (λ i. ladder ((made ∙ c.if-makes_orphans.false) i) ((sym c.lacks_operator.ensures ∙ c.if-lacks_operator.false) i) ((sym c.are_too_many.ensures ∙ c.if-are_too_many.false) i))
