use Rattle.epoch_catalog.proofs.CopiedGlobs.{of_withdrawal}
use Rattle.epoch_catalog.proofs.copying.copy_wdr.Goals as goal

pub copy_globs-requires : goal.copy_globs-requires
copy_globs-requires c = of_withdrawal c.args.wdr.now
