use Rattle.std.proofs.Common.{rules, ◌≡◌}
use Rattle.channel_globs.specs.Matching.{is_match_any}
use Rattle.channel_globs.proofs.Decides.{any_decides}
use Rattle.channel_globs.proofs.patterns.PatternList.matches.Goals as goal

pub returns-clause-relation : goal.returns-clause-relation
returns-clause-relation c =
    let e : c.some_matches.result ≡ is_match_any c.args.self.now c.args.code.now = search rules in
    rw e (any_decides c.args.self.now c.args.code.now)
