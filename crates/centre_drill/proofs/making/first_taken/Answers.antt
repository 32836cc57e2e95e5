use Rattle.std.proofs.Common.{◌∙◌, refl}
use Rattle.archive_state.specs.Lawful.{is_next}
use Rattle.archive_state.proofs.FoundingEntry.{founding_next}
use Rattle.centre_drill.specs.History.{ha1, operator}
use Rattle.centre_drill.proofs.making.first_taken.Goals as goal

pub take_in-requires-clause-next : goal.take_in-requires-clause-next
take_in-requires-clause-next c = (λ i. is_next (c.new-state.ensures i) (c.in_ok-entry.ensures i)) ∙ founding_next operator ha1 refl refl
