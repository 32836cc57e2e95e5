use Rattle.std.proofs.Common.{◌≡◌, arith, rules, true}
use Rattle.std.specs.List.{list_all}
use Rattle.channel_globs.specs.Matching.{is_plain}
use Rattle.channel_globs.proofs.Plain.{single_matches}
use Rattle.channel_globs.proofs.patterns.PatternList.single.Goals as goal

pub returns-in-len1-clause-alone : goal.returns-in-len1-clause-alone
returns-in-len1-clause-alone c other =
    let list : c.as_slice.result.now ≡ c.args.self.now = search rules in
    let plain : list_all is_plain c.only-item.result ≡ true = search rules in
    rw (← list) (single_matches c.as_slice.result.now c.only-item.result other (omega arith) c.only-item.is plain)
