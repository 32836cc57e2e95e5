use Rattle.epoch_catalog.proofs.CopiedGlobs.{of_grant}
use Rattle.epoch_catalog.proofs.copying.copy_grt.Goals as goal

pub copy_globs-requires : goal.copy_globs-requires
copy_globs-requires c = of_grant c.args.grt.now
