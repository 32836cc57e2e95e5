use Rattle.archive_world.proofs.Calling.{made_held}
use Rattle.archive_world.proofs.Holding.{ignores_may, ignores_after}
use Rattle.archive_world.proofs.law.what_happens_under_the_lock_ignores_callers.Goals as goal

pub returns-clause-may : goal.returns-clause-may
returns-clause-may c = ignores_may

pub returns-clause-after : goal.returns-clause-after
returns-clause-after c = ignores_after

pub returns-clause-submit : goal.returns-clause-submit
returns-clause-submit c = made_held
