use Rattle.epoch_rules.proofs.KeptCatalog.{kept_lines}
use Rattle.epoch_catalog.proofs.law.kept_lines_keep_a_catalog.Goals as goal

pub returns : goal.returns
returns c = kept_lines
