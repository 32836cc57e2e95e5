use Rattle.std.proofs.Common.{◌∙◌, ◌+◌, filter, length, if◌then◌else◌, Some, None, sym, ap, subst, arith}
use Rattle.epochs.specs.Views.{values_of_line}
use Rattle.epoch_rules.specs.Endings.{AreEndsOf}
use Rattle.epoch_rules.specs.EndsOver.{has_end_over}
use Rattle.epoch_rules.specs.KeyOrder.{have_one_key, key_parts_of}
use Rattle.epoch_rules.specs.Neighbours.{is_at_key, IsFirstOf}
use Rattle.epoch_rules.specs.Outlines.{outlined}
use Rattle.epoch_rules.specs.Rules.{is_operator}
use Rattle.epoch_rules.proofs.Counts.{count_others}
use Rattle.epoch_rules.proofs.Ended.{ended_cut, one_at_key}
use Rattle.epoch_rules.proofs.Members.{any_has}
use Rattle.epoch_rules.proofs.Nearest.{first_there}
use Rattle.epoch_rules.proofs.NextTo.{some_first}
use Rattle.epoch_rules.proofs.OutlineSteps.{on_ok, on_ok_both}
use Rattle.epoch_rules.proofs.WithLine.{no_other_gone, others}
use Rattle.epoch_rules.proofs.outline.Outline.remove.Goals as goal

pub remove-requires-clause-there : goal.remove-requires-clause-there
remove-requires-clause-there c =
    let live = outlined c.args.self.now in
    let e = values_of_line c.args.line.now in
    let first = subst (λ k. IsFirstOf (filter (is_at_key k) live) (Some c.in-Some.old)) c.key_view.ensures c.in-Some.ensures in
    let old = first_there live c.requires.rises (is_at_key (key_parts_of e)) first.0 (values_of_line c.in-Some.old.now) first.1 in
    any_has (have_one_key e) live (values_of_line c.in-Some.old.now) old.0 old.1

pub overflow_sub-self : goal.overflow_sub-self
overflow_sub-self c =
    let live = outlined c.args.self.now in
    let e = values_of_line c.args.line.now in
    let first = subst (λ k. IsFirstOf (filter (is_at_key k) live) (Some c.in-Some.old)) c.key_view.ensures c.in-Some.ensures in
    let old = first_there live c.requires.rises (is_at_key (key_parts_of e)) first.0 (values_of_line c.in-Some.old.now) first.1 in
    let count = sym (ap (λ b. length (filter is_operator (others e live)) + (if b then 1 else 0)) (one_at_key is_operator live c.requires.rises e (values_of_line c.in-Some.old.now) old.0 old.1)) ∙ count_others is_operator e live c.requires.rises in
    omega (arith, count, c.count_operator.ensures, c.requires.outline.counted)

pub returns-clause-lines : goal.returns-clause-lines
returns-clause-lines c = on_ok c.forget.result c.in_ok-remove.ensures.lines

pub returns-clause-outline : goal.returns-clause-outline
returns-clause-outline c =
    let o = c.args.self.now in
    let live = outlined o in
    let e = values_of_line c.args.line.now in
    let ends = o.index.now.ends in
    let first = subst (λ k. IsFirstOf (filter (is_at_key k) live) (Some c.in-Some.old)) c.key_view.ensures c.in-Some.ensures in
    let old = first_there live c.requires.rises (is_at_key (key_parts_of e)) first.0 (values_of_line c.in-Some.old.now) first.1 in
    let count = sym (ap (λ b. length (filter is_operator (others e live)) + (if b then 1 else 0)) (one_at_key is_operator live c.requires.rises e (values_of_line c.in-Some.old.now) old.0 old.1)) ∙ count_others is_operator e live c.requires.rises in
    let lines = c.in_ok-remove.ensures.lines in
    let counted = ap (λ l. length (filter is_operator l)) lines in
    on_ok_both c.forget.result c.forget.ensures.child c.forget.ensures.other
    (λ child other.
    record {
      laid = c.in_ok-remove.ensures.overlay;
      counted = omega (arith, count, counted, c.count_operator.ensures, c.requires.outline.counted);
      ended =
          subst (AreEndsOf (has_end_over c.forget.new.self ends)) (sym lines)
          (ended_cut (has_end_over o.ends ends) (has_end_over c.forget.new.self ends) live c.requires.rises e (values_of_line c.in-Some.old.now) old.0 old.1 c.requires.outline.ended (λ h. child h ends) (λ h. other h ends));
    })

pub returns-in_default-clause-lines : goal.returns-in_default-clause-lines
returns-in_default-clause-lines c =
    let live = outlined c.args.self.now in
    let e = values_of_line c.args.line.now in
    let first = subst (λ k. IsFirstOf (filter (is_at_key k) live) None) c.key_view.ensures (subst (IsFirstOf (filter (is_at_key _) live)) c.in_default.is c.line_at.ensures) in
    sym (no_other_gone e live (sym (some_first (have_one_key e) live None first)))
