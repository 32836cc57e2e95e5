use Rattle.std.proofs.Common.{◌∙◌, filter, length, sym, ap, subst, arith}
use Rattle.epochs.specs.Views.{values_of_line}
use Rattle.epoch_rules.specs.Endings.{AreEndsOf}
use Rattle.epoch_rules.specs.EndsOver.{has_end_over}
use Rattle.epoch_rules.specs.Outlines.{outlined}
use Rattle.epoch_rules.specs.Overlays.{overlaid}
use Rattle.epoch_rules.specs.Rules.{is_operator}
use Rattle.epoch_rules.proofs.Counts.{count_put}
use Rattle.epoch_rules.proofs.Ended.{ended_put}
use Rattle.epoch_rules.proofs.OutlineSteps.{few_pass, on_ok, on_ok_both}
use Rattle.epoch_rules.proofs.outline.Outline.put.Goals as goal

pub overflow_add-self : goal.overflow_add-self
overflow_add-self c =
    let o = c.args.self.now in
    let e = values_of_line c.args.line.now in
    let count = ap (λ l. length (filter is_operator l)) c.in_ok-insert.ensures.lines ∙ count_put is_operator e (outlined o) c.requires.absent in
    let most = few_pass is_operator (overlaid c.insert.new.self) in
    omega (arith, count, most, c.len.ensures.len, c.len.ensures.small, c.count_operator.ensures, c.requires.outline.counted)

pub returns-clause-lines : goal.returns-clause-lines
returns-clause-lines c = on_ok c.keep.result c.in_ok-insert.ensures.lines

pub returns-clause-outline : goal.returns-clause-outline
returns-clause-outline c =
    let o = c.args.self.now in
    let e = values_of_line c.args.line.now in
    let ends = o.index.now.ends in
    let lines = c.in_ok-insert.ensures.lines in
    let count = ap (λ l. length (filter is_operator l)) lines ∙ count_put is_operator e (outlined o) c.requires.absent in
    on_ok_both c.keep.result c.keep.ensures.child c.keep.ensures.other
    (λ child other.
    record {
      laid = c.in_ok-insert.ensures.overlay;
      counted = omega (arith, count, c.count_operator.ensures, c.requires.outline.counted);
      ended =
          subst (AreEndsOf (has_end_over c.keep.new.self ends)) (sym lines)
          (ended_put (has_end_over o.ends ends) (has_end_over c.keep.new.self ends) (outlined o) e c.requires.outline.ended (λ h. child h ends) (λ h. other h ends) c.requires.absent);
    })
