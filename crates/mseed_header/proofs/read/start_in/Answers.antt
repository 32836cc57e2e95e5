use Rattle.std.proofs.Common.{◌≡◌, arith, ap, ◌∙◌, FitsSigned, w32}
use Rattle.std.proofs.lemmas.Int.{ints}
use Rattle.exact_time.specs.BTime.{btime_micros}
use Rattle.mseed_header.specs.Fields.{time_at}
use Rattle.mseed_header.proofs.Starts.{sum_is}
use Rattle.mseed_header.proofs.read.start_in.Goals as goal

pub overflow_add-result : goal.overflow_add-result
overflow_add-result c = omega (arith, ints, c.in-Ok.ensures.bound, c.correction_in.type_inv)

pub returns-clause-value : goal.returns-clause-value
returns-clause-value c =
    let start : c.in-Ok.time.micros ≡ btime_micros (time_at c.args.little c.args.bytes.now) = c.in-Ok.ensures.value ∙ ap btime_micros c.time_in.ensures in
    let small : FitsSigned w32 c.correction_in.result = omega (arith, ints, c.correction_in.type_inv) in
    sum_is c.in-Ok.time.micros c.correction_in.result _ _ c.in-Ok.ensures.bound small start c.correction_in.ensures

pub returns-clause-low : goal.returns-clause-low
returns-clause-low c = omega (arith, ints, c.in-Ok.ensures.bound, c.correction_in.type_inv)

pub returns-clause-high : goal.returns-clause-high
returns-clause-high c = omega (arith, ints, c.in-Ok.ensures.bound, c.correction_in.type_inv)
