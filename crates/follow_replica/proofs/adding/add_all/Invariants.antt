use Rattle.std.proofs.Common.{◌≡◌, ◌+◌, length}
use Rattle.std.specs.List.{AllByRecursion}
use Rattle.std.specs.Vec.Iter.{into_iter_items}
use Rattle.archive_entry.specs.Spelling.{IsEntry}
use Rattle.archive_post.specs.Intake.{StandsForSome}
use Rattle.follow_replica.specs.Numbers.{coming_from}
use Rattle.follow_replica.specs.Takes.{Adds}
use Rattle.follow_replica.proofs.adding.add_all.Given as goal

abbrev pub invariant-entries : goal.invariant-entries
invariant-entries g l =
    let view = g.D.Disk.view in
    record {
      stands : StandsForSome view l.intake;
      entries : AllByRecursion IsEntry (into_iter_items l.rest);
      adds : Adds view l.fn.intake.archive l.intake.archive (coming_from (l.fn.intake.archive.count + 1) l.fn.entries) (coming_from (l.intake.archive.count + 1) (into_iter_items l.rest));
      stopped : l.intake.archive.stopped ≡ l.fn.intake.archive.stopped;
    }

abbrev pub decreases-entries : goal.decreases-entries
decreases-entries g l = length (into_iter_items l.rest)
