use Rattle.std.proofs.Common.{◌^◌, ◌<◌, ◌-◌}
use Rattle.disk_model.specs.View.{WhereTold, file_of}
use Rattle.disk_model.specs.Effects.{OnlyReads}
use Rattle.archive_journal.specs.Recovery.{IsWalked}
use Rattle.archive_journal.proofs.recover.walk.Given as goal

-- so far there are whole open frames, and the disk was only read
abbrev pub invariant-gates : goal.invariant-gates
invariant-gates g l =
    let view = g.D.Disk.view in
    record {
      read : OnlyReads (view l.fn.disk) (view l.disk) ⊥;
      walked : WhereTold (view l.fn.disk) (IsWalked (file_of (view l.fn.disk)) l.offsets.items l.at);
      fits : l.at < 2 ^ 63;
    }

abbrev pub decreases-gates : goal.decreases-gates
decreases-gates g l = l.len - l.at
