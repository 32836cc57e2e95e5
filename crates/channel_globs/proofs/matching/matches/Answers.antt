use Rattle.std.proofs.lemmas.Bool.Decides.{same_from_decides}
use Rattle.channel_globs.proofs.Decides.{match_decides}
use Rattle.channel_globs.proofs.matching.matches.Goals as goal

pub returns : goal.returns
returns c = same_from_decides c.matches_at.result _ c.matches_at.ensures (match_decides c.args.pattern.now c.args.code.now)
