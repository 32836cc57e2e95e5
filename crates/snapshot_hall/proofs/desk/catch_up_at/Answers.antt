use Rattle.std.proofs.Common.{List, subst}
use mathlib.Core.List.{IsPrefix}
use Rattle.archive_entry.specs.declared.entry.Entry.{Entry}
use Rattle.archive_post.specs.Waiting.{committed}
use Rattle.archive_world.specs.Held.{held}
use Rattle.archive_world.proofs.Calling.{learns_still}
use Rattle.snapshot_hall.proofs.desk.catch_up_at.Goals as goal

pub returns-clause-steps : goal.returns-clause-steps
returns-clause-steps g c =
    let old = c.deref_mut-committer.result.now in
    let before = c.count-count.ensures in
    learns_still c.args.place.now.front c.bring.new.place.front (held (committed old.latest old.intake.waiting) old.front old.intake.archive.hand)
    (record { lawful = before.lawful; first = before.begins; few = before.few })
    (subst (λ (h : List Entry). IsPrefix c.args.place.now.front h) c.bring.ensures.all c.bring.ensures.seen)
    c.bring.ensures.all
