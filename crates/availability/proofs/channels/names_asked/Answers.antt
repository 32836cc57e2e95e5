use Rattle.std.proofs.Common.{◌∙◌}
use Rattle.channel_globs.specs.Names.{name_cmp}
use Rattle.dataselect.specs.HeldNames.{names_of}
use Rattle.availability.proofs.Ordered.{put_more}
use Rattle.availability.proofs.channels.names_asked.Goals as goal

pub selections-preserved : goal.selections-preserved
selections-preserved g c =
    rw (c.in_ok-put_names.ensures, c.as_slice.ensures, c.in_ok-more.ensures)
    (put_more name_cmp (λ s. names_of s (g.S.Shelf.rows c.args.shelf.now)) c.selections.names.keys c.selections.selection-index c.args.selections.now c.selection-item.result c.selections-test.true c.selection-item.is ∙ c.selections.invariant)
