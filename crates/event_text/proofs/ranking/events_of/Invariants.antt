use Rattle.std.proofs.Common.{◌≡◌, ◌++◌, map}
use Rattle.event_text.specs.Ranks.{line_at, line_of_rank}
use Rattle.event_text.proofs.ranking.events_of.Given as goal

abbrev pub invariant-ranks : goal.invariant-ranks
invariant-ranks l = map line_at l.events ++ map line_of_rank l.rank-iterator ≡ map line_of_rank l.ranks.keys
