use Rattle.std.proofs.Common.{arith}
use Rattle.std.proofs.lemmas.Bool.Decides.{nat_tests}
use Rattle.exact_time.proofs.DecimalsWritten.{cut_short}
use Rattle.exact_time.proofs.writing.short.Goals.{then-zeros-test+else-digits-end-eq48, else-zeros-test}
use Rattle.exact_time.proofs.writing.short.Goals as goal

pub returns : goal.returns
returns c =
    let i = c.zeros.invariant in
    cut_short c.args.digits.now c.zeros.end i.some i.within i.zeros (elim c.zeros-test.branch [
      | then-zeros-test+else-digits-end-eq48 w ↦ λ h. let other = w.if-digits-end-eq48.false in grind (arith, nat_tests, other)
      | else-zeros-test w ↦ λ h. absurd (omega (arith, h, w.zeros-test.false))
    ])
