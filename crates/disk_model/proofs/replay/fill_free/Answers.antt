use Rattle.std.proofs.Common.{ap, sym, length, rules}
use Rattle.disk_model.specs.Changes.{at_rest, state_after, changes_in}
use Rattle.disk_model.proofs.Fills.{filled_past}
use Rattle.disk_model.proofs.replay.fill_free.Goals as goal

pub returns : goal.returns
returns c =
    let images = (state_after (at_rest c.args.base.now) (changes_in c.args.steps.now)).images in
    filled_past images (length c.args.base.now) c.args.content.now c.fill_written.new.image c.fill.new.image c.args.byte c.saturating_sub-past.result
    (ap length (sym c.requires.base)) (search rules) (c.fill_written.ensures c.args.base.now) (search rules) (search rules)
