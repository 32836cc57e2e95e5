use Rattle.archive_state.proofs.NextEntry.{next_is_entry}
use Rattle.archive_post.proofs.kept.Intake.add.Goals as goal

pub prepare-requires : goal.prepare-requires
prepare-requires g c = let next = c.requires.next in next_is_entry next.history c.args.entry next.stands.lawful next.next
