use Rattle.split_fetch.proofs.OneThing.{one_thing}
use Rattle.split_fetch.proofs.law.one_thing_is_heard.Goals as goal

pub returns : goal.returns
returns c = one_thing
