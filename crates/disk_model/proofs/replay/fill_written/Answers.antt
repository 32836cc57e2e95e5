use Rattle.std.proofs.Common.{List, sym, take, subst, rules}
use Rattle.std.proofs.lemmas.List.{take_all}
use Rattle.disk_model.specs.declared.change.Step.{Step}
use Rattle.disk_model.specs.Changes.{State, at_rest, state_after, changes_in}
use Rattle.disk_model.specs.Choices.{IsFilled}
use Rattle.disk_model.proofs.Past.{state_more}
use Rattle.disk_model.proofs.replay.fill_written.Goals as goal

pub steps-preserved : goal.steps-preserved
steps-preserved c base =
    let s = state_after (at_rest base) (changes_in (take c.steps.step-index c.args.steps.now)) in
    let e = state_more (at_rest base) c.args.steps.now c.steps.step-index c.step-item.result (search rules) c.step-item.is in
    subst (λ (t : State). IsFilled t.images.is_written c.args.content.now c.args.byte c.fill_step.new.image) (sym e) (c.fill_step.ensures s (c.steps.invariant base))

pub returns : goal.returns
returns c base =
    subst (λ (xs : List Step). IsFilled (state_after (at_rest base) (changes_in xs)).images.is_written c.args.content.now c.args.byte c.steps.image) (take_all c.steps.step-index c.args.steps.now (search rules)) (c.steps.invariant base)
