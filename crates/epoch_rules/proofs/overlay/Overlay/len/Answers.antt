use Rattle.std.proofs.Common.{arith}
use Rattle.epoch_rules.proofs.OverlaySteps.{few_laid}
use Rattle.epoch_rules.proofs.overlay.Overlay.len.Goals as goal

pub returns-clause-small : goal.returns-clause-small
returns-clause-small c = let few = few_laid c.args.self.now c.requires in omega (arith, few, c.requires.counted, c.len.ensures.len, c.len.ensures.small)
