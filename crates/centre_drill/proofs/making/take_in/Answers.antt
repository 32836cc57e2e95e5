use Rattle.archive_state.proofs.NextEntry.{next_absorbs}
use Rattle.centre_drill.proofs.making.take_in.Goals as goal

pub absorb-requires : goal.absorb-requires
absorb-requires c = next_absorbs c.args.state.now c.args.entry.now c.requires.lawful c.requires.next
