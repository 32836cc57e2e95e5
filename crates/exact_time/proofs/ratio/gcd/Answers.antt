use Rattle.std.proofs.lemmas.Nat.Gcd.{IsGcd-from_mod, IsGcd-from_zero}
use Rattle.exact_time.proofs.ratio.gcd.Goals as goal

pub remainders-preserved : goal.remainders-preserved
remainders-preserved c = λ g h. c.remainders.invariant g (IsGcd-from_mod c.remainders.x c.remainders.y g h)

pub returns : goal.returns
returns c = c.remainders.invariant c.remainders.x (IsGcd-from_zero c.remainders.x c.remainders.y c.remainders-test.false)
