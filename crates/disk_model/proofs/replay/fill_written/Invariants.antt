use Rattle.std.proofs.Common.{ℕ, List, take}
use Rattle.disk_model.specs.Changes.{at_rest, state_after, changes_in}
use Rattle.disk_model.specs.Choices.{IsFilled}
use Rattle.disk_model.proofs.replay.fill_written.Given as goal

abbrev pub invariant-steps : goal.invariant-steps
invariant-steps l = (base : List ℕ) → IsFilled (state_after (at_rest base) (changes_in (take l.step-index l.steps))).images.is_written l.content l.byte l.image
