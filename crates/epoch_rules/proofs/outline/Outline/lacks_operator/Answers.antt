use Rattle.std.proofs.Common.{◌≡◌, ◌∙◌, ◌-◌, ◌&&◌, filter, length, nat_eq, false, if◌then◌else◌, refl, eq-eqb, sym, ap, arith}
use Rattle.std.proofs.lemmas.Bool.{eqb-true, false_from_ne_true}
use Rattle.epochs.specs.Views.{values_of_line}
use Rattle.epoch_rules.specs.Outlines.{outlined}
use Rattle.epoch_rules.specs.Rules.{is_operator}
use Rattle.epoch_rules.proofs.Counts.{count_others}
use Rattle.epoch_rules.proofs.OperatorsLeft.{none_left}
use Rattle.epoch_rules.proofs.WithLine.{others}
use Rattle.epoch_rules.proofs.outline.Outline.lacks_operator.Goals as goal

pub overflow_sub-others : goal.overflow_sub-others
overflow_sub-others c =
    let count = count_others is_operator (values_of_line c.args.line.now) (outlined c.args.self.now) c.requires.catalog.rises in
    omega (arith, count, c.operators_replaced.ensures, c.requires.outline.counted)

pub returns-then-others-eq0 : goal.returns-then-others-eq0
returns-then-others-eq0 c =
    let e = values_of_line c.args.line.now in
    let live = outlined c.args.self.now in
    let n = c.args.self.now.operators - c.operators_replaced.result in
    let count = count_others is_operator e live c.requires.catalog.rises in
    let left : n ≡ length (filter is_operator (others e live)) = omega (arith, count, c.operators_replaced.ensures, c.requires.outline.counted) in
    sym (none_left live e c.requires.catalog n c.count_operator.result left c.count_operator.ensures ∙ ap (λ b. b && nat_eq c.count_operator.result 0) (eq-eqb n 0 c.if-others-eq0.true))

pub returns-else-others-eq0 : goal.returns-else-others-eq0
returns-else-others-eq0 c =
    let e = values_of_line c.args.line.now in
    let live = outlined c.args.self.now in
    let n = c.args.self.now.operators - c.operators_replaced.result in
    let own = if is_operator e then 1 else 0 in
    let count = count_others is_operator e live c.requires.catalog.rises in
    let left : n ≡ length (filter is_operator (others e live)) = omega (arith, count, c.operators_replaced.ensures, c.requires.outline.counted) in
    let some : nat_eq n 0 ≡ false = false_from_ne_true (nat_eq n 0) (λ h. c.if-others-eq0.false (eqb-true n 0 h)) in
    some ∙ sym (none_left live e c.requires.catalog n own left refl ∙ ap (λ b. b && nat_eq own 0) some)
