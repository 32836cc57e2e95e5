use Rattle.std.proofs.Common.{◌∙◌, sym, ap}
use Rattle.std.specs.Option.{option_copied}
use Rattle.archive_state.proofs.NextEntry.{next_absorbs}
use Rattle.archive_post.specs.Waiting.{waits}
use Rattle.archive_post.proofs.showing.absorb_one.Goals as goal

pub absorb-requires : goal.absorb-requires
absorb-requires c =
    next_absorbs c.args.state.now c.in-Some.entry.now c.requires.lawful (ap (λ o. waits c.args.state.now (option_copied o)) (sym c.in-Some.is) ∙ c.requires.waits)
