use Rattle.std.proofs.Common.{sym, ap, inl, inr}
use Rattle.follow_round.specs.Steps.{ended_so}
use Rattle.follow_round.proofs.hearing.ended.Goals as goal

pub returns-in-BadReply : goal.returns-in-BadReply
returns-in-BadReply c = elim c.in-BadReply.is [
  | inl is ↦ sym (ap ended_so is)
  | inr long ↦ sym (ap ended_so long.1)
]

pub returns-in-Cut : goal.returns-in-Cut
returns-in-Cut c = elim c.in-Cut.is [
  | inl is ↦ sym (ap ended_so is)
  | inr failed ↦ sym (ap ended_so failed)
]

pub returns-in-OutOfMemory : goal.returns-in-OutOfMemory
returns-in-OutOfMemory c = sym (ap ended_so c.in-OutOfMemory.is)
