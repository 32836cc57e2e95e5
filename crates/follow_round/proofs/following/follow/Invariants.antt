use Rattle.std.proofs.Common.{◌-◌, ◌<◌}
use Rattle.follow_round.proofs.FollowSteps.{SoFar}
use Rattle.follow_round.proofs.following.follow.Given as goal

abbrev pub invariant-rounds : goal.invariant-rounds
invariant-rounds g l = record {
  so : SoFar g.D.Disk.view l.fn.user l.fn.ha1 l.fn.follower l.follower (g.P.Port.view l.fn.port) (g.P.Port.view l.port) l.done;
  few : l.done < l.fn.rounds;
}

abbrev pub decreases-rounds : goal.decreases-rounds
decreases-rounds g l = l.fn.rounds - l.done
