use Rattle.std.proofs.Common.{arith}
use Rattle.std.proofs.lemmas.Str.{digit_value_digit}
use Rattle.std.proofs.lemmas.Int.Digits.{digits_value_more}
use Rattle.exact_time.proofs.Digits.{digit_at}
use Rattle.http_answers.proofs.Wide.{value_fits}
use Rattle.http_answers.proofs.values.wide.Goals as goal

pub overflow_mul-number : goal.overflow_mul-number
overflow_mul-number c =
    let f = value_fits c.args.digits.now c.digits.digit-index c.requires.digits c.requires.short c.digits-test.true in
    omega (arith, f, c.digits.invariant)

pub overflow_add-number : goal.overflow_add-number
overflow_add-number c =
    let f = value_fits c.args.digits.now c.digits.digit-index c.requires.digits c.requires.short c.digits-test.true in
    let d = digit_value_digit _ (digit_at c.args.digits.now c.digits.digit-index c.requires.digits c.digits-test.true) in
    omega (arith, f, d, c.digits.invariant, c.from.ensures)

pub digits-preserved : goal.digits-preserved
digits-preserved c =
    let m = digits_value_more 10 c.args.digits.now c.digits.digit-index c.digits-test.true in
    let d = digit_value_digit _ (digit_at c.args.digits.now c.digits.digit-index c.requires.digits c.digits-test.true) in
    omega (arith, m, d, c.digits.invariant, c.from.ensures)
