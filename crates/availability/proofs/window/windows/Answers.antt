use Rattle.std.proofs.Common.{sym, subst, ◌∙◌}
use Rattle.availability.specs.Channels.{all_spans}
use Rattle.availability.specs.Windows.{AreAlone}
use Rattle.availability.proofs.Extents.{kept_alone}
use Rattle.availability.proofs.window.windows.Goals as goal

pub extents-requires : goal.extents-requires
extents-requires c =
    subst AreAlone (sym (c.as_slice.ensures ∙ c.in_ok-kept.ensures)) (kept_alone c.args.selection.now (all_spans c.args.channels.now))
