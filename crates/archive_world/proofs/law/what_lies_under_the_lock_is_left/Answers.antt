use Rattle.archive_world.proofs.Holding.{held_left, left_held}
use Rattle.archive_world.proofs.law.what_lies_under_the_lock_is_left.Goals as goal

pub returns : goal.returns
returns g c disk seen shown waiting hand apart =
    let view = g.D.Disk.view disk in (held_left view seen shown waiting hand apart, left_held view seen shown waiting hand)
