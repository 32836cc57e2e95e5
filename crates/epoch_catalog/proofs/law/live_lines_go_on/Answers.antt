use Rattle.epoch_rules.proofs.LiveByKey.{live_lines_go_on}
use Rattle.epoch_catalog.proofs.law.live_lines_go_on.Goals as goal

pub returns : goal.returns
returns c = live_lines_go_on
