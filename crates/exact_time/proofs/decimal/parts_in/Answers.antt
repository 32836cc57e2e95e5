use Rattle.std.proofs.Common.{◌≡◌, ◌<◌, true, arith, rules}
use Rattle.exact_time.specs.DecimalSteps.{are_digits}
use Rattle.exact_time.proofs.Digits.{whole_bound, decimals_bound}
use Rattle.exact_time.proofs.decimal.parts_in.Goals as goal

pub returns-clause-bound : goal.returns-clause-bound
returns-clause-bound c =
    let whole : are_digits c.args.whole.now ≡ true = search rules in
    let decimals : are_digits c.args.decimals.now ≡ true = search rules in
    let a = whole_bound c.args.whole.now whole (omega arith) in
    let b = decimals_bound c.args.decimals.now decimals (omega arith) in
    let w = c.number_of-2.ensures.value in
    let d = c.number_of.ensures.value in
    let rest : c.from-2.result < 1_000_000 = rw (c.from-2.ensures, d, c.scale.ensures.value) b in
    omega (arith, a, w, rest, c.from.ensures)
