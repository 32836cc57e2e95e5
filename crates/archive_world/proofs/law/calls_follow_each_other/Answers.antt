use Rattle.archive_world.proofs.Holding.{by_then}
use Rattle.archive_world.proofs.law.calls_follow_each_other.Goals as goal

pub returns : goal.returns
returns g c before mid now = let view = g.D.Disk.view in by_then (view before) (view mid) (view now)
