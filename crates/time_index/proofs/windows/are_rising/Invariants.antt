use Rattle.time_index.proofs.Rising.{RiseTo}
use Rattle.time_index.proofs.windows.are_rising.Given as goal

abbrev pub invariant-ranks : goal.invariant-ranks
invariant-ranks l = RiseTo l.ranks l.index
