use Rattle.std.proofs.Common.{◌≡◌, ℤ, Result, Ok, Err, MatchResult, sym, subst, rules, to_z, of_z}
use Rattle.std.specs.Int.{w128}
use Rattle.std.proofs.lemmas.Result.{err_from_is_err_and}
use Rattle.exact_time.specs.Decimals.{IsDecimal, RefusesDecimal}
use Rattle.exact_time.specs.declared.moment.TimeFault.{TimeFault}
use Rattle.exact_time.proofs.DecimalTexts.{decimal_right, only_decimal}
use Rattle.exact_time.proofs.decimal.Decimal.read.Goals as goal

pub returns-in_err-millionths : goal.returns-in_err-millionths
returns-in_err-millionths c =
    let text = c.args.text.now in
    let p = err_from_is_err_and c.from_residual.result c.from_residual.ensures.1 in
    let right = subst (λ (r : Result ℤ TimeFault). MatchResult r (IsDecimal text) (RefusesDecimal text)) (sym c.in_err-millionths.ensures.value) (decimal_right text) in
    rw (p.1, p.2) (record { exact = only_decimal text (Err c.in_err-millionths.field-0.0) right })

pub returns : goal.returns
returns c =
    let text = c.args.text.now in
    let m = c.in_ok-millionths.millionths in
    let right = subst (λ (r : Result ℤ TimeFault). MatchResult r (IsDecimal text) (RefusesDecimal text)) (sym c.in_ok-millionths.ensures.value) (decimal_right text) in
    let back : to_z w128 (of_z w128 m) ≡ m = search rules in
    record { exact = only_decimal text (Ok _) (rw back right) }
