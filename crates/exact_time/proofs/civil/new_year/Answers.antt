use Rattle.std.proofs.Common.{◌≡◌, ℕ, ◌+◌, ◌*◌, ◌/◌, ◌%◌, pos, arith, sym, ap, ◌∙◌}
use Rattle.std.proofs.lemmas.Int.{ints}
use Rattle.jiff_core.specs.Calendar.{days_from_civil}
use Rattle.jiff_core.specs.Date.{epoch_day}
use Rattle.exact_time.proofs.Calendar.{new_year-cycle}
use Rattle.exact_time.proofs.civil.new_year.Goals as goal

pub returns-clause-value : goal.returns-clause-value
returns-clause-value c =
    let r = c.args.year % 400 in
    let q = c.args.year / 400 in
    let split : r + 400 * q ≡ c.args.year = omega arith in
    let cycle = ap (λ (n : ℕ). days_from_civil (pos n) 1 1) (sym split) ∙ new_year-cycle r q in
    let year : c.date-first.result.year ≡ pos r = omega (arith, ints) in
    let month : c.date-first.result.month ≡ 1 = omega (arith, ints) in
    let day : c.date-first.result.day ≡ 1 = omega (arith, ints) in
    let first : epoch_day c.date-first.result ≡ days_from_civil (pos r) 1 1 = cc in
    let plain : c.to_unix_epoch_day-days.result ≡ days_from_civil (pos r) 1 1 = c.to_unix_epoch_day-days.ensures.value ∙ ap epoch_day c.to_plain.ensures ∙ first in
    omega (arith, ints)
