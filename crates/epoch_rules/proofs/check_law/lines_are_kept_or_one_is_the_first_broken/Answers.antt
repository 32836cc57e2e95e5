use Rattle.epoch_rules.proofs.OneCheck.{one_verdict}
use Rattle.epoch_rules.proofs.check_law.lines_are_kept_or_one_is_the_first_broken.Goals as goal

pub returns : goal.returns
returns c = λ live lines is. one_verdict live is.rises is.states lines
