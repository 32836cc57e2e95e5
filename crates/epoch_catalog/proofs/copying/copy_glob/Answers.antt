use Rattle.std.proofs.Common.{subst}
use Rattle.channel_globs.specs.PatternText.{IsPatternList}
use Rattle.channel_globs.proofs.OneList.{one_list}
use Rattle.epoch_catalog.proofs.CopiedGlobs.{same_glob}
use Rattle.epoch_catalog.proofs.copying.copy_glob.Goals as goal

pub returns-in-Ok : goal.returns-in-Ok
returns-in-Ok c =
    let glob = c.args.glob.now in
    let read = subst (λ text. IsPatternList c.args.part text c.in-Ok.list) c.as_slice.ensures c.in-Ok.ensures.list in
    same_glob c.in_ok-text.text c.in-Ok.list glob c.in_ok-text.ensures (one_list c.args.part glob.text c.in-Ok.list glob.list read c.requires)
