use Rattle.std.proofs.Common.{inl, inr, ap, Err}
use Rattle.channel_globs.proofs.OneList.{only_read, only_refused}
use Rattle.channel_globs.proofs.patterns.PatternList.read.Goals as goal

pub returns-in-Ok-clause-exact : goal.returns-in-Ok-clause-exact
returns-in-Ok-clause-exact c = inr (only_read c.args.part c.args.text.now c.in-Ok.items.items c.in-Ok.ensures.list)

pub returns-in-Err-clause-exact : goal.returns-in-Err-clause-exact
returns-in-Err-clause-exact c = elim (only_refused c.args.part c.args.text.now c.in-Err.fault c.in-Err.ensures.refused) [
  | inl starved ↦ inl (ap Err starved)
  | inr only ↦ inr only
]
