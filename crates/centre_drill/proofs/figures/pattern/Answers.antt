use Rattle.std.proofs.Common.{◌∷◌, []}
use Rattle.centre_drill.proofs.Counts.{one_list}
use Rattle.centre_drill.proofs.figures.pattern.Goals as goal

pub returns-in-Ok : goal.returns-in-Ok
returns-in-Ok c = one_list c.args.part c.args.text.now c.in-Ok.list (c.args.text.now ∷ []) c.in-Ok.ensures.list c.requires
