use Rattle.std.proofs.Common.{ℕ}
use Rattle.std.specs.Int.{IsGcd}
use Rattle.exact_time.proofs.ratio.gcd.Given as goal

-- a divisor of what is left is one of what was given
abbrev pub invariant-remainders : goal.invariant-remainders
invariant-remainders l = (g : ℕ) → IsGcd l.x l.y g → IsGcd l.fn.a l.fn.b g

abbrev pub decreases-remainders : goal.decreases-remainders
decreases-remainders l = l.y
