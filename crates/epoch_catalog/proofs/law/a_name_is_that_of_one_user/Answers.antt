use Rattle.epoch_catalog.proofs.OneUser.{one_user}
use Rattle.epoch_catalog.proofs.law.a_name_is_that_of_one_user.Goals as goal

pub returns : goal.returns
returns c = one_user
