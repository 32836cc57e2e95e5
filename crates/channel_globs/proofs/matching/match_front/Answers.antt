use Rattle.std.proofs.Common.{inl, inr}
use Rattle.channel_globs.proofs.MatchingSteps.{step_at}
use Rattle.channel_globs.proofs.matching.match_front.Goals as goal
use Rattle.channel_globs.proofs.matching.match_front.Goals.{else-first-ne63-via-then-first-ne63+else-first-byte, else-first-ne63-via-else-first-ne63}

pub bytes-preserved : goal.bytes-preserved
bytes-preserved c = step_at c.args.pattern.now c.args.code.now c.bytes.glob.now c.bytes.left.now c.bytes.invariant c.in-len1-up.len_at_least c.in-len1-up-left.len_at_least (let h = c.if-first-eq42.false in h) (elim c.else-first-ne63.branch [ else-first-ne63-via-then-first-ne63+else-first-byte w ↦ inr w.if-first-byte.false | else-first-ne63-via-else-first-ne63 w ↦ inl w.if-first-ne63.false ])
