use Rattle.std.proofs.Common.{◌≡◌, pos, Ok, ap, arith}
use Rattle.std.proofs.lemmas.Int.{ints}
use Rattle.exact_time.specs.declared.decimal.Decimal.{Decimal}
use Rattle.query_parameters.proofs.Minimums.{minimum_read, decimal_at}
use Rattle.query_parameters.proofs.values.read_minimum.Goals.{then-micros-lt0-via-then-micros-lt0, then-micros-lt0-via-else-micros-lt0+then-micros-gt-GREATEST_MINIMUM}
use Rattle.query_parameters.proofs.values.read_minimum.Goals as goal

pub returns-in_default : goal.returns-in_default
returns-in_default c = record { exact = λ micros h. let e = minimum_read c.args.text.now c.read.result c.read.ensures.exact micros h in c.in_default.not-Ok _ e }

pub returns-then-micros-lt0 : goal.returns-then-micros-lt0
returns-then-micros-lt0 c = record {
  exact = λ micros h.
      let e = minimum_read c.args.text.now (Ok c.in-Ok.seconds) c.in-Ok.ensures.exact micros h in
      let same : c.in-Ok.seconds ≡ decimal_at micros c.args.text.now h = cc in
      let value : c.in-Ok.seconds.millionths ≡ pos micros = ap (λ (d : Decimal). d.millionths) same in
      elim c.then-micros-lt0.branch [
        | then-micros-lt0-via-then-micros-lt0 w ↦ omega (arith, ints, value, h.small, w.if-micros-lt0)
        | then-micros-lt0-via-else-micros-lt0+then-micros-gt-GREATEST_MINIMUM w ↦ omega (arith, ints, value, h.small, w.if-micros-gt-GREATEST_MINIMUM)
      ];
}
