use Rattle.std.proofs.Common.{length}
use Rattle.channel_globs.specs.Matching.{LeadsTo}
use Rattle.channel_globs.proofs.matching.match_front.Given as goal

abbrev pub invariant-bytes : goal.invariant-bytes
invariant-bytes l = LeadsTo l.pattern l.code l.glob l.left

abbrev pub decreases-bytes : goal.decreases-bytes
decreases-bytes l = length l.glob
