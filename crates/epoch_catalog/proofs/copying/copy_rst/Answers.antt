use Rattle.epoch_catalog.proofs.CopiedGlobs.{of_restriction}
use Rattle.epoch_catalog.proofs.copying.copy_rst.Goals as goal

pub copy_globs-requires : goal.copy_globs-requires
copy_globs-requires c = of_restriction c.args.rst.now
