use Rattle.std.proofs.Common.{ℕ, List, subst}
use Rattle.exact_time.specs.MomentText.{IsMoment, RefusesMoment}
use Rattle.centre_coverage.proofs.Decide.{alone, no_date}
use Rattle.centre_coverage.proofs.days.day_of.Goals as goal

pub returns-in-Ok : goal.returns-in-Ok
returns-in-Ok c =
    let micros = c.in-Ok.moment.micros in
    alone c.args.word.now micros (subst (λ (xs : List ℕ). IsMoment xs micros) c.as_bytes.ensures.value c.in-Ok.ensures.value) c.if-word-ne10.false

pub returns-in-Err : goal.returns-in-Err
returns-in-Err c =
    let fault = c.in-Err.field-0 in
    no_date c.args.word.now fault (subst (λ (xs : List ℕ). RefusesMoment xs fault) c.as_bytes.ensures.value c.in-Err.ensures.exact.right)
