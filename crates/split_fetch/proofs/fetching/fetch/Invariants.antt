use Rattle.std.proofs.Common.{◌+◌, ◌-◌, ◌*◌}
use Rattle.split_fetch.specs.Plans.{stage_of}
use Rattle.split_fetch.proofs.FetchSteps.{SoFar}
use Rattle.split_fetch.proofs.fetching.fetch.Given as goal

-- all links so far were heard, and this is where they lead
abbrev pub invariant-asks : goal.invariant-asks
invariant-asks g l = SoFar l.codes l.fn.window (g.P.Port.view l.fn.port) (g.P.Port.view l.port) (stage_of l.plan)

abbrev pub decreases-asks : goal.decreases-asks
decreases-asks g l = (8 - l.plan.round) * 10_000 + (10_000 - l.plan.asked)
