use Rattle.std.proofs.Common.{◌∷◌, []}
use Rattle.channel_globs.proofs.OneList.{one_list}
use Rattle.split_fetch.proofs.everything.pattern.Goals as goal

pub returns-in-Ok : goal.returns-in-Ok
returns-in-Ok c = one_list c.args.part c.args.text.now c.in-Ok.list (c.args.text.now ∷ []) c.in-Ok.ensures.list c.requires
