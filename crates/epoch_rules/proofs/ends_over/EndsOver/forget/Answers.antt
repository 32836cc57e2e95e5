use Rattle.std.proofs.Common.{◌≡◌, true, subst}
use Rattle.epochs.specs.Views.{values_of_line}
use Rattle.epoch_rules.specs.Endings.{EndingParts, is_child}
use Rattle.epoch_rules.specs.EndsOver.{DropsEndOver}
use Rattle.epoch_rules.proofs.EndsLaid.{on_ok_map}
use Rattle.epoch_rules.proofs.ends_over.EndsOver.forget.Goals as goal

pub returns-in-Some-clause-child : goal.returns-in-Some-clause-child
returns-in-Some-clause-child c =
    on_ok_map {Q = is_child (values_of_line c.args.line.now) ≡ true → DropsEndOver c.args.self.now _ c.drop_end.new.self} c.drop_end.result (λ drops child. subst (λ (p : EndingParts). DropsEndOver c.args.self.now p c.drop_end.new.self) c.in-Some.ensures.1 drops) c.drop_end.ensures
