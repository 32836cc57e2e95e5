use Rattle.std.proofs.Common.{◌≡◌, arith, rules}
use Rattle.channel_globs.proofs.PatternTexts.{only_star}
use Rattle.channel_globs.proofs.patterns.PatternList.is_any.Goals as goal

pub returns-in-len1 : goal.returns-in-len1
returns-in-len1 c =
    let list : c.as_slice.result.now ≡ c.args.self.now = search rules in
    rw (← list) (only_star c.as_slice.result.now c.only-item.result c.as_slice-in-len1.result.now c.eq.result (omega arith) c.only-item.is c.as_slice-in-len1.ensures.value (rw c.as_slice-in-len1-2.ensures at c.eq.ensures))
